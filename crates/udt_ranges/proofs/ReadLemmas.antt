-- What is read of the links.
use Rattle.std.proofs.Common.{◌≡◌, ℕ, zero, suc, ◌+◌, ◌<◌, ◌%◌, true, List, [], ◌∷◌, ◌++◌, length, get_or, refl, sym, ap, ◌∙◌, arith, Option, Some, None, IsSome}
use Rattle.std.proofs.lemmas.List.{get_or_read}
use Rattle.std.proofs.lemmas.Bool.{false≢true}
use Rattle.std.proofs.Math.Nat.{mod-lt}
use Rattle.udt_ranges.specs.declared.range.Range.{Range}
use Rattle.udt_ranges.specs.declared.links.Place.{Place}
use Rattle.udt_ranges.specs.Ranges.{Rises, IsWithin}
use Rattle.udt_ranges.specs.Cursors.{begins_at, ahead, through, beyond, first_of}
use Rattle.udt_ranges.specs.Chains.{place_at, range_at, walk, last_first, IsChain}
use Rattle.udt_ranges.proofs.RisingLemmas.{Rises-middle}
use Rattle.udt_ranges.proofs.CursorLemmas.{split_at}
use Rattle.udt_ranges.proofs.ChainLemmas.{LeadsTo, IsLinked-from}
use Rattle.udt_ranges.proofs.StepLemmas.{links_are, rises_are, tail_was, walk-IsWithin, last_first-least}

module _ {T : Type 0} where
  -- where a range begins, there are places
  pub begins-some : (at w : ℕ) (rs : List (Range T)) → begins_at at rs ≡ true → IsWithin w rs → 0 < w
  unfolding begins_at IsWithin Rises
  begins-some at w [] begins within = absurd (false≢true begins)
  begins-some at w (r ∷ rs) begins within = omega arith

  pub some_length : (rs : List (Range T)) → IsSome (first_of rs) → 0 < length rs
  some_length [] some = absurd (false≢true some)
  some_length (r ∷ rs) some = omega arith

module _ {T : Type 0} (blank : T) where
  -- what lies at a place is what was read there
  pub place_at-read : (places : List (Place T)) (at slot : ℕ) (place : Place T) → slot ≡ at % length places → 0 < length places → place ≡ get_or places slot place → place ≡ place_at blank places at
  unfolding place_at
  place_at-read places at slot place same some read =
      get_or_read places (at % length places) place (mod-lt at some) (rw same at read) _

  -- the first offset
  pub first_none : (places : List (Place T)) (n head : ℕ) → n ≡ 0 → ◌≡◌ {A = Option ℕ} None (first_of (walk blank places n head))
  unfolding walk
  first_none places zero head none = refl
  first_none places (suc n) head none = absurd (omega arith)

  pub first_some : (places : List (Place T)) (n head : ℕ) → (n ≡ 0 → ⊥) → Some head ≡ first_of (walk blank places n head)
  unfolding walk range_at
  first_some places zero head some = absurd (some refl)
  first_some places (suc n) head some = refl

  pub some_first : (places : List (Place T)) (n head : ℕ) → IsSome (first_of (walk blank places n head)) → 0 < n
  unfolding walk
  some_first places zero head some = absurd (false≢true some)
  some_first places (suc n) head some = omega arith

  module _ (places : List (Place T)) (head tail hint count : ℕ) (chain : IsChain blank places head tail hint count) where
    -- there are places where there are ranges
    pub counted-some : 0 < count → 0 < length places
    unfolding IsWithin Rises walk
    counted-some some =
        (elim count as (λ n. 0 < n → IsWithin (length places) (walk blank places n head) → 0 < length places) [
          | zero ↦ λ h within. absurd (omega arith)
          | suc n ↦ λ h within. omega arith
        ]) some (walk-IsWithin blank places head tail hint count chain)

    module _ (at : ℕ) (begins : begins_at at (walk blank places count head) ≡ true) where
      read_split : (front : List (Range T)) (here : Range T) (back through ahead : List (Range T)) → walk blank places count head ≡ front ++ here ∷ back → here.first ≡ at → through ≡ front ++ here ∷ [] → ahead ≡ front → through ≡ ahead ++ range_at blank places at ∷ []
      read_split front here back through ahead is first through_is ahead_is =
          let links = links_are blank places head tail hint count chain front here back is in
          let there = (IsLinked-from blank places front here back links).0 in
          rw (through_is, ahead_is, ← first, there) refl

      -- the range that begins at an offset is what lies at its place
      pub read_is : through at (walk blank places count head) ≡ ahead at (walk blank places count head) ++ range_at blank places at ∷ []
      read_is =
          let s = split_at at (walk blank places count head) begins in
          read_split s.front s.here s.back _ _ s.is s.first s.through_is s.ahead_is

      last_split : (front : List (Range T)) (here : Range T) (back : List (Range T)) → walk blank places count head ≡ front ++ here ∷ back → here.first ≡ at → at ≡ tail → ◌≡◌ {A = Option ℕ} None (first_of back)
      unfolding last_first Rises
      last_split front here [] is first last = refl
      last_split front here (r ∷ back) is first last =
          let middle = Rises-middle head (head + length places) front here (r ∷ back) (rises_are blank places head tail hint count chain front here (r ∷ back) is) in
          let was = tail_was blank places head tail hint count chain front here (r ∷ back) is in
          let least = last_first-least r.first (r.last + 1) (head + length places) back middle.3.3 (omega (arith, middle.3.1)) in
          absurd (omega (arith, middle.1, middle.3.0))

      next_split : (front : List (Range T)) (here : Range T) (back : List (Range T)) → walk blank places count head ≡ front ++ here ∷ back → here.first ≡ at → (at ≡ tail → ⊥) → Some (place_at blank places at).next ≡ first_of back
      unfolding last_first LeadsTo
      next_split front here [] is first more =
          absurd (more (sym first ∙ tail_was blank places head tail hint count chain front here [] is))
      next_split front here (r ∷ back) is first more =
          let links = links_are blank places head tail hint count chain front here (r ∷ back) is in
          ap Some (ap (λ f. (place_at blank places f).next) (sym first) ∙ (IsLinked-from blank places front here (r ∷ back) links).1)

      -- after the tail there is no range
      pub none_after : at ≡ tail → ◌≡◌ {A = Option ℕ} None (first_of (beyond at (walk blank places count head)))
      none_after last =
          let s = split_at at (walk blank places count head) begins in
          last_split s.front s.here s.back s.is s.first last ∙ ap first_of (sym s.beyond_is)

      -- after any other range is the one that its place leads to
      pub next_after : (at ≡ tail → ⊥) → Some (place_at blank places at).next ≡ first_of (beyond at (walk blank places count head))
      next_after more =
          let s = split_at at (walk blank places count head) begins in
          next_split s.front s.here s.back s.is s.first more ∙ ap first_of (sym s.beyond_is)
