-- Lists of views: a sum over all of them where one is changed, two of them in one sum, and what each of them meets.
use Rattle.std.proofs.Common.{◌≡◌, ◌≢◌, ◌⊎◌, ℕ, zero, suc, ◌+◌, ◌<◌, ◌≤◌, List, [], ◌∷◌, ◌++◌, length, set, refl, sym, ap, ◌∙◌, subst, inl, inr, ⊎_elim, arith}
use mathlib.Core.Option.{some, some-ne-none, some-injective}
use lib.ListN.{get_elem?}
use Rattle.atomic_table.proofs.Lists.{at_set}
use Rattle.udt_turn.specs.Rule.{total_of}

module _ {A : Type 0} where
  pub total_set : (f : A → ℕ) (l : List A) (i : ℕ) (v w : A) → get_elem? l i ≡ some v → total_of f (set l i w) + f v ≡ total_of f l + f w
  total_set f [] i v w e = absurd (some-ne-none v (sym e))
  total_set f (x ∷ xs) zero v w e = let h : f x ≡ f v = ap f (some-injective x v e) in omega arith
  total_set f (x ∷ xs) (suc i) v w e = let h = total_set f xs i v w e in omega arith

  pub total_same : (f : A → ℕ) (l : List A) (i : ℕ) (v w : A) → get_elem? l i ≡ some v → f w ≡ f v → total_of f (set l i w) ≡ total_of f l
  total_same f l i v w e h = let t = total_set f l i v w e in omega arith

  pub total_push : (f : A → ℕ) (l : List A) (a : A) → total_of f (l ++ a ∷ []) ≡ total_of f l + f a
  total_push f [] a = omega arith
  total_push f (x ∷ xs) a = let h = total_push f xs a in omega arith

  pub total_le : (f g : A → ℕ) (l : List A) → ((j : ℕ) (v : A) → get_elem? l j ≡ some v → f v ≤ g v) → total_of f l ≤ total_of g l
  total_le f g [] h = omega arith
  total_le f g (x ∷ xs) h = let a = h 0 x refl in let b = total_le f g xs (λ j v e. h (suc j) v e) in omega arith

  pub total_ge : (f : A → ℕ) (l : List A) (i : ℕ) (v : A) → get_elem? l i ≡ some v → f v ≤ total_of f l
  total_ge f [] i v e = absurd (some-ne-none v (sym e))
  total_ge f (x ∷ xs) zero v e = let h : f x ≡ f v = ap f (some-injective x v e) in omega arith
  total_ge f (x ∷ xs) (suc i) v e = let h = total_ge f xs i v e in omega arith

  pub total_two : (f : A → ℕ) (l : List A) (i j : ℕ) (v u : A) → i ≢ j → get_elem? l i ≡ some v → get_elem? l j ≡ some u → f v + f u ≤ total_of f l
  total_two f [] i j v u n a b = absurd (some-ne-none v (sym a))
  total_two f (x ∷ xs) zero zero v u n a b = absurd (n refl)
  total_two f (x ∷ xs) zero (suc j) v u n a b = let h : f x ≡ f v = ap f (some-injective x v a) in let k = total_ge f xs j u b in omega arith
  total_two f (x ∷ xs) (suc i) zero v u n a b = let h : f x ≡ f u = ap f (some-injective x u b) in let k = total_ge f xs i v a in omega arith
  total_two f (x ∷ xs) (suc i) (suc j) v u n a b = let k = total_two f xs i j v u (λ e. n (ap suc e)) a b in omega arith

  total_none : (f : A → ℕ) (l : List A) → ((j : ℕ) (u : A) → get_elem? l j ≡ some u → f u ≡ 0) → total_of f l ≡ 0
  total_none f [] h = refl
  total_none f (x ∷ xs) h = let a = h 0 x refl in let b = total_none f xs (λ j u e. h (suc j) u e) in omega arith

  pub total_only : (f : A → ℕ) (l : List A) (i : ℕ) (v : A) → get_elem? l i ≡ some v → ((j : ℕ) (u : A) → j ≢ i → get_elem? l j ≡ some u → f u ≡ 0) → total_of f l ≡ f v
  total_only f [] i v e h = absurd (some-ne-none v (sym e))
  total_only f (x ∷ xs) zero v e h = let a : f x ≡ f v = ap f (some-injective x v e) in let b = total_none f xs (λ j u e. h (suc j) u (λ (q : suc j ≡ zero). omega arith) e) in omega arith
  total_only f (x ∷ xs) (suc i) v e h =
      let a : f x ≡ 0 = h 0 x (λ (q : zero ≡ suc i). omega arith) refl in
      let b = total_only f xs i v e (λ j u n e. h (suc j) u (λ (q : suc j ≡ suc i). n (omega arith)) e) in omega arith

  pub at_end : (l : List A) (a b : A) (j : ℕ) → get_elem? (l ++ a ∷ []) j ≡ some b → (get_elem? l j ≡ some b) ⊎ ((j ≡ length l) × (a ≡ b))
  at_end [] a b zero e = inr (refl, some-injective a b e)
  at_end [] a b (suc j) e = absurd (some-ne-none b (sym e))
  at_end (x ∷ xs) a b zero e = inl e
  at_end (x ∷ xs) a b (suc j) e = ⊎_elim (λ h. inl h) (λ h. inr (ap suc h.0, h.1)) (at_end xs a b j e)

  pub get_below : (l : List A) (j : ℕ) (b : A) → get_elem? l j ≡ some b → j < length l
  get_below [] j b e = absurd (some-ne-none b (sym e))
  get_below (x ∷ xs) zero b e = omega arith
  get_below (x ∷ xs) (suc j) b e = let h = get_below xs j b e in omega arith

  -- one view at one place
  pub same_at : (l : List A) (i : ℕ) (u v : A) → get_elem? l i ≡ some u → get_elem? l i ≡ some v → u ≡ v
  same_at l i u v a b = some-injective u v (sym a ∙ b)

  -- what each meets, each still meets where the changed one meets it
  pub each_set : (P : A → Type 0) (l : List A) (i : ℕ) (w : A) → ((j : ℕ) (u : A) → j ≢ i → get_elem? l j ≡ some u → P u) → P w → (j : ℕ) (u : A) → get_elem? (set l i w) j ≡ some u → P u
  each_set P l i w others mine j u e = ⊎_elim (λ (t : (j ≡ i) × (w ≡ u)). subst P t.1 mine) (λ (t : (j ≢ i) × (get_elem? l j ≡ some u)). others j u t.0 t.1) (at_set l i j w u e)

  pub each_push : (P : A → Type 0) (l : List A) (w : A) → ((j : ℕ) (u : A) → get_elem? l j ≡ some u → P u) → P w → (j : ℕ) (u : A) → get_elem? (l ++ w ∷ []) j ≡ some u → P u
  each_push P l w others mine j u e = ⊎_elim (λ h. others j u h) (λ (t : (j ≡ length l) × (w ≡ u)). subst P t.1 mine) (at_end l w u j e)
