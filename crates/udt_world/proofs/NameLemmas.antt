-- Sockets by their names: a map whose keys are in the order of byte strings finds what is seen first under a name.
use Rattle.std.proofs.Common.{◌≡◌, ℕ, Bool, true, false, cond, List, Option, refl, ◌∙◌, sym}
use Rattle.std.specs.Prelude.{Vec}
use Rattle.std.specs.BTreeMap.{BTreeMap, UpdatesBy, is_at}
use Rattle.std.specs.Cmp.Lexicographic.{nat_list_eq_equiv, slice_cmp}
use Rattle.std.specs.Global.{Global}
use Rattle.std.specs.Map.{lookup, KeepsOthers}
use Rattle.std.specs.declared.cmp.Ordering.{Ordering}
use Rattle.std.specs.Ordering.{nat_cmp}
use Rattle.std.proofs.lemmas.Map.Text.{is_eq-slice_cmp}
use Rattle.udt_model.specs.Words.{is_word}
use Rattle.udt_world.proofs.PlaceLemmas.{same_word}

abbrev pub Name : Type 0
Name = Vec ℕ Global

abbrev pub is_named : List ℕ → Name → Bool
is_named name key = is_word key.items name

abbrev pub name_cmp : List ℕ → Name → Ordering
name_cmp name key = slice_cmp nat_cmp name key.items

-- two words are the same either way
pub is_word-turned : (a b : List ℕ) → is_word a b ≡ is_word b a
is_word-turned a b = nat_list_eq_equiv.symm a b

-- a key compares as equal where it is the name
pub named_as : (name : List ℕ) (key : Name) → is_at (name_cmp name) key ≡ is_named name key
named_as name key = is_eq-slice_cmp name key.items ∙ is_word-turned name key.items

-- so the map finds what is kept under the name
pub kept_under : {X : Type 0} (name : List ℕ) (entries : List (Name × X)) → lookup (is_at (name_cmp name)) entries ≡ lookup (is_named name) entries
kept_under name entries = λ i. lookup (λ key. named_as name key i) entries

other_word : (a b : List ℕ) (c : List ℕ) → is_word a b ≡ false → is_word a c ≡ true → is_word c b ≡ false
other_word a b c other same = rw (sym (same_word a c same)) other

-- a name has what it was given, and each other one what it had
pub kept_after : {X : Type 0} (old new : BTreeMap Name X) (word : List ℕ) (value : Option X)
    → UpdatesBy (λ x y. slice_cmp nat_cmp x.items y.items) (name_cmp word) old new value → (name : List ℕ)
    → lookup (is_named name) new.entries ≡ cond (is_word word name) value (lookup (is_named name) old.entries)
unfolding KeepsOthers
kept_after old new word value updates name = by (is_word word name) refl
  where
    by : (b : Bool) → is_word word name ≡ b → lookup (is_named name) new.entries ≡ cond b value (lookup (is_named name) old.entries)
    by true is =
        rw (sym (same_word word name is)) (sym (kept_under word new.entries) ∙ updates.1)
    by false other =
        updates.3 (is_named name)
        (λ x y same. is_word-turned y.items name ∙ (rw (sym (same_word x.items name same)) (sym (is_eq-slice_cmp x.items y.items))))
        (λ key same. other_word word name key.items other (is_word-turned word key.items ∙ (sym (named_as word key) ∙ same)))
