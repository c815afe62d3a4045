-- One of some sockets gets a name that none has: it alone stands under that name then, and none under its old one.
use Rattle.std.proofs.Common.{◌≡◌, ℕ, Bool, true, false, cond, List, Some, None, Option, refl, ap, ◌∙◌, sym}
use Rattle.std.specs.Prelude.{slice_get, slice_set, position}
use Rattle.std.proofs.lemmas.Option.{same_Some}
use Rattle.udt_model.specs.Words.{is_word}
use Rattle.udt_laws.proofs.scripts.ReplacedOne.{set-same}
use Rattle.udt_world.specs.Views.{Sight}
use Rattle.udt_world.specs.Wiring.{place_seen}
use Rattle.udt_world.proofs.FirstLemmas.{Only, position-set, replaced-cases}
use Rattle.udt_world.proofs.PlaceLemmas.{same_word, is_same_word}
use Rattle.udt_world.proofs.PushLemmas.{first_passes, each_fails, none_first}

-- the only one that passes is the first
position-only : {X : Type 0} (p : X → Bool) (xs : List X) (k : ℕ) (x : X) → slice_get xs k ≡ Some x → p x ≡ true → Only p xs
    → position p xs ≡ Some k
position-only p xs k x at passes only = by (position p xs) refl
  where
    by : (found : Option ℕ) → position p xs ≡ found → position p xs ≡ Some k
    by None none = let fails = each_fails p xs k x none at in absurd (cc)
    by (Some j) found =
        let there = first_passes p xs j found in
        found ∙ ap Some (only j k there.0 x there.1 at there.2 passes)

module _ {C : Type 0} (sights : List (Sight C)) (place : ℕ) (s : Sight C) (new : List ℕ)
    (found : slice_get sights place ≡ Some s)
    (called : (p : ℕ) (x : Sight C) → slice_get sights p ≡ Some x → place_seen sights x.name ≡ Some p)
    (free : place_seen sights new ≡ None) where
  abbrev renamed : Sight C
  renamed = record s { name = new }

  abbrev after : List (Sight C)
  after = slice_set sights place renamed

  abbrev says : List ℕ → Sight C → Bool
  says name x = is_word x.name name

  -- none had the new name
  none-had : (name : List ℕ) → is_word new name ≡ true → (k : ℕ) (x : Sight C) → slice_get sights k ≡ Some x → says name x ≡ false
  none-had name is k x at = each_fails (says name) sights k x (ap (place_seen sights) (sym (same_word new name is)) ∙ free) at

  -- no other one had the old name
  none-else : (name : List ℕ) → is_word s.name name ≡ true → (k : ℕ) (x : Sight C) → (k ≡ place → ⊥) → slice_get sights k ≡ Some x
      → says name x ≡ false
  none-else name is k x apart at = by (says name x) refl
    where
      by : (b : Bool) → says name x ≡ b → says name x ≡ false
      by true same =
          let names : x.name ≡ s.name = same_word x.name name same ∙ sym (same_word s.name name is) in
          let there : Some k ≡ Some place = sym (called k x at) ∙ (ap (place_seen sights) names ∙ called place s found) in
          absurd (apart (same_Some k place there))
      by false other = other

  only-renamed : (name : List ℕ) → is_word new name ≡ true → Only (says name) after
  only-renamed name is = λ i j x y at_i at_j one other.
      replaced-cases sights place s renamed found i x at_i
      (λ i_is x_is. replaced-cases sights place s renamed found j y at_j
      (λ j_is y_is. i_is ∙ sym j_is)
      (λ apart before. let fails = none-had name is j y before in absurd (cc)))
      (λ apart before. let fails = none-had name is i x before in absurd (cc))

  -- the place that is seen under a name
  pub seen-renamed : (name : List ℕ)
      → place_seen after name ≡ cond (is_word new name) (Some place) (cond (is_word s.name name) None (place_seen sights name))
  seen-renamed name = by (is_word new name) (is_word s.name name) refl refl
    where
      by : (a b : Bool) → is_word new name ≡ a → is_word s.name name ≡ b
          → place_seen after name ≡ cond a (Some place) (cond b None (place_seen sights name))
      by true b is was =
          position-only (says name) after place renamed (set-same sights place s renamed found) is (only-renamed name is)
      by false true not_new was = none_first (says name) after (λ k x at.
          replaced-cases sights place s renamed found k x at
          (λ is x_is. ap (λ (y : Sight C). is_word y.name name) x_is ∙ not_new)
          (λ apart before. none-else name was k x apart before))
      by false false not_new not_old = position-set (says name) sights place s renamed found (not_new ∙ sym not_old)

  -- and each stands under its own
  pub called-renamed : (p : ℕ) (x : Sight C) → slice_get after p ≡ Some x → place_seen after x.name ≡ Some p
  called-renamed p x at = replaced-cases sights place s renamed found p x at
      (λ is x_is. ap (λ (y : Sight C). place_seen after y.name) x_is
      ∙ (seen-renamed new ∙ rw (is_same_word new) (ap Some (sym is))))
      (λ apart before. seen-renamed x.name ∙ others p x apart before (is_word new x.name) (is_word s.name x.name) refl refl)
    where
      others : (p : ℕ) (x : Sight C) → (p ≡ place → ⊥) → slice_get sights p ≡ Some x → (a b : Bool) → is_word new x.name ≡ a
          → is_word s.name x.name ≡ b → cond (is_word new x.name) (Some place) (cond (is_word s.name x.name) None (place_seen sights x.name)) ≡ Some p
      others p x apart before true b is was =
          let fails = none-had x.name is p x before in
          let own = is_same_word x.name in
          absurd (cc)
      others p x apart before false true is was =
          let fails = none-else x.name was p x apart before in
          let own = is_same_word x.name in
          absurd (cc)
      others p x apart before false false is was = rw (is, was) (called p x before)
