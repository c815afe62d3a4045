-- What an ID has in a list in the order of the IDs, once one was put in or taken out.
use Rattle.std.proofs.Common.{◌≡◌, ℕ, ◌+◌, ◌≤◌, Bool, true, false, cond, List, [], ◌∷◌, length, Some, None, refl, ap, ◌∙◌, sym, arith}
use Rattle.std.specs.declared.cmp.Ordering.{Ordering}
use Rattle.std.specs.declared.cmp.Ordering.TheVariants.{Less, Equal, Greater}
use Rattle.std.specs.Ordering.{is_eq, nat_cmp, match_ordering, ordering_reverse}
use Rattle.std.specs.Cmp.{eq_by_cmp_equiv, nat_cmp_total}
use Rattle.std.specs.List.{AllByRecursion}
use Rattle.std.specs.List.Sorted.{IsStrictlySortedBy}
use Rattle.std.specs.Map.{keys_of, remove_entry}
use Rattle.std.specs.BTreeMap.{is_at, insert_entry}
use Rattle.std.proofs.lemmas.Map.{lookup-remove_entry}
use Rattle.std.proofs.lemmas.Map.Keys.{IsDistinct-from_sorted}
use Rattle.std.proofs.lemmas.Map.Lookups.{exact_unsigned}
use Rattle.udt_routes.specs.Sorted.{value_at, IsRising}

is_equal : (c : Ordering) → is_eq c ≡ true → c ≡ Equal
is_equal Less e = absurd (cc)
is_equal Equal e = refl
is_equal Greater e = absurd (cc)

-- IDs that compare as equal are the same
pub same_id : (i j : ℕ) → is_eq (nat_cmp i j) ≡ true → i ≡ j
same_id i j e = exact_unsigned i j (is_equal (nat_cmp i j) e)

pub is_same_id : (i : ℕ) → is_eq (nat_cmp i i) ≡ true
is_same_id i = (eq_by_cmp_equiv nat_cmp_total).refl i

-- and others aren't
pub other_id : (i j : ℕ) → (i ≡ j → ⊥) → is_eq (nat_cmp i j) ≡ false
other_id i j apart = by (is_eq (nat_cmp i j)) refl
  where
    by : (b : Bool) → is_eq (nat_cmp i j) ≡ b → b ≡ false
    by true e = absurd (apart (same_id i j e))
    by false e = refl

flip_greater : (i j : ℕ) → nat_cmp i j ≡ Greater → nat_cmp j i ≡ Less
flip_greater i j above = nat_cmp_total.antisymm j i ∙ ap ordering_reverse above

module _ {V : Type 0} where
  all_less : (i j : ℕ) (es : List (ℕ × V)) → nat_cmp i j ≡ Less → AllByRecursion (λ y. nat_cmp j y ≡ Less) (keys_of es)
      → AllByRecursion (λ y. nat_cmp i y ≡ Less) (keys_of es)
  all_less i j [] below all = tt
  all_less i j (e ∷ es) below all = (nat_cmp_total.trans i j e.0 below all.0, all_less i j es below all.1)

  all_removed : (P : ℕ → Type 0) (test : ℕ → Bool) (es : List (ℕ × V)) → AllByRecursion P (keys_of es)
      → AllByRecursion P (keys_of (remove_entry test es))
  all_removed P test [] all = all
  all_removed P test (e ∷ es) all = by (test e.0) (all_removed P test es all.1)
    where
      by : (b : Bool) → AllByRecursion P (keys_of (remove_entry test es)) → AllByRecursion P (keys_of (cond b es (e ∷ remove_entry test es)))
      by true rest = all.1
      by false rest = (all.0, rest)

  all_inserted : (P : ℕ → Type 0) (id : ℕ) (v : V) (es : List (ℕ × V)) → P id → AllByRecursion P (keys_of es)
      → AllByRecursion P (keys_of (insert_entry nat_cmp es id v))
  all_inserted P id v [] here all = (here, tt)
  all_inserted P id v (e ∷ es) here all = by (nat_cmp id e.0) (all_inserted P id v es here all.1)
    where
      by : (c : Ordering) → AllByRecursion P (keys_of (insert_entry nat_cmp es id v))
          → AllByRecursion P (keys_of (match_ordering c ((id, v) ∷ e ∷ es) ((e.0, v) ∷ es) (e ∷ insert_entry nat_cmp es id v)))
      by Less rest = (here, all)
      by Equal rest = all
      by Greater rest = (all.0, rest)

  -- the order stays
  pub rising_removed : (id : ℕ) (es : List (ℕ × V)) → IsRising nat_cmp es → IsRising nat_cmp (remove_entry (is_at (nat_cmp id)) es)
  unfolding IsStrictlySortedBy
  rising_removed id [] rises = rises
  rising_removed id (e ∷ es) rises = by (is_at (nat_cmp id) e.0) (rising_removed id es rises.1)
    where
      by : (b : Bool) → IsRising nat_cmp (remove_entry (is_at (nat_cmp id)) es)
          → IsRising nat_cmp (cond b es (e ∷ remove_entry (is_at (nat_cmp id)) es))
      by true rest = rises.1
      by false rest = (all_removed (λ y. nat_cmp e.0 y ≡ Less) (is_at (nat_cmp id)) es rises.0, rest)

  pub rising_inserted : (id : ℕ) (v : V) (es : List (ℕ × V)) → IsRising nat_cmp es → IsRising nat_cmp (insert_entry nat_cmp es id v)
  unfolding IsStrictlySortedBy
  rising_inserted id v [] rises = (tt, tt)
  rising_inserted id v (e ∷ es) rises = by (nat_cmp id e.0) refl (rising_inserted id v es rises.1)
    where
      by : (c : Ordering) → nat_cmp id e.0 ≡ c → IsRising nat_cmp (insert_entry nat_cmp es id v)
          → IsRising nat_cmp (match_ordering c ((id, v) ∷ e ∷ es) ((e.0, v) ∷ es) (e ∷ insert_entry nat_cmp es id v))
      by Less is rest = ((is, all_less id e.0 es is rises.0), rises)
      by Equal is rest = rises
      by Greater is rest = (all_inserted (λ y. nat_cmp e.0 y ≡ Less) id v es (flip_greater id e.0 is) rises.0, rest)

  -- an ID that was taken out has nothing, and the others have what they had
  pub value_removed : (id : ℕ) (es : List (ℕ × V)) → IsRising nat_cmp es → (other : ℕ)
      → value_at nat_cmp (remove_entry (is_at (nat_cmp id)) es) other ≡ cond (is_eq (nat_cmp id other)) None (value_at nat_cmp es other)
  value_removed id es rises other =
      lookup-remove_entry (eq_by_cmp_equiv nat_cmp_total) (is_at (nat_cmp id)) (λ x y. (eq_by_cmp_equiv nat_cmp_total).congr id x y)
      other es (IsDistinct-from_sorted nat_cmp (keys_of es) rises)

  -- one that had nothing has what was put in
  pub value_inserted : (id : ℕ) (v : V) (es : List (ℕ × V)) → value_at nat_cmp es id ≡ None → (other : ℕ)
      → value_at nat_cmp (insert_entry nat_cmp es id v) other ≡ cond (is_eq (nat_cmp other id)) (Some v) (value_at nat_cmp es other)
  value_inserted id v [] none other = refl
  value_inserted id v (e ∷ es) none other = by (nat_cmp id e.0) refl none (λ empty. value_inserted id v es empty other)
    where
      apart : nat_cmp id e.0 ≡ Greater → (b c : Bool) → is_eq (nat_cmp other e.0) ≡ b → is_eq (nat_cmp other id) ≡ c
          → value_at nat_cmp (insert_entry nat_cmp es id v) other ≡ cond c (Some v) (value_at nat_cmp es other)
          → cond b (Some e.1) (value_at nat_cmp (insert_entry nat_cmp es id v) other)
          ≡ cond c (Some v) (cond b (Some e.1) (value_at nat_cmp es other))
      apart above false c e_is id_is rest = rest
      apart above true false e_is id_is rest = refl
      apart above true true e_is id_is rest =
          let same : id ≡ e.0 = sym (same_id other id id_is) ∙ same_id other e.0 e_is in
          let equal = is_same_id e.0 in
          let differs : is_eq (nat_cmp id e.0) ≡ false = ap is_eq above in
          let both : is_eq (nat_cmp id e.0) ≡ true = ap (λ (i : ℕ). is_eq (nat_cmp i e.0)) same ∙ equal in
          absurd (cc)

      by : (c : Ordering) → nat_cmp id e.0 ≡ c → cond (is_eq c) (Some e.1) (value_at nat_cmp es id) ≡ None
          → (value_at nat_cmp es id ≡ None → value_at nat_cmp (insert_entry nat_cmp es id v) other
          ≡ cond (is_eq (nat_cmp other id)) (Some v) (value_at nat_cmp es other))
          → value_at nat_cmp (match_ordering c ((id, v) ∷ e ∷ es) ((e.0, v) ∷ es) (e ∷ insert_entry nat_cmp es id v)) other
          ≡ cond (is_eq (nat_cmp other id)) (Some v) (value_at nat_cmp (e ∷ es) other)
      by Less is empty rest = refl
      by Equal is empty rest = absurd (cc)
      by Greater is empty rest = apart is (is_eq (nat_cmp other e.0)) (is_eq (nat_cmp other id)) refl refl (rest empty)

  pub length_removed : (test : ℕ → Bool) (es : List (ℕ × V)) → length (remove_entry test es) ≤ length es
  length_removed test [] = omega arith
  length_removed test (e ∷ es) = by (test e.0) (length_removed test es)
    where
      by : (b : Bool) → length (remove_entry test es) ≤ length es → length (cond b es (e ∷ remove_entry test es)) ≤ length (e ∷ es)
      by true rest = omega arith
      by false rest = omega arith

  pub length_inserted : (id : ℕ) (v : V) (es : List (ℕ × V)) → length (insert_entry nat_cmp es id v) ≤ length es + 1
  length_inserted id v [] = omega arith
  length_inserted id v (e ∷ es) = by (nat_cmp id e.0) (length_inserted id v es)
    where
      by : (c : Ordering) → length (insert_entry nat_cmp es id v) ≤ length es + 1
          → length (match_ordering c ((id, v) ∷ e ∷ es) ((e.0, v) ∷ es) (e ∷ insert_entry nat_cmp es id v)) ≤ length (e ∷ es) + 1
      by Less rest = omega arith
      by Equal rest = omega arith
      by Greater rest = omega arith
