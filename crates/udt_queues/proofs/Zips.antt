-- Two lists, of which the second is taken off from its end, and each element changes that of the first at its place.
use Rattle.std.proofs.Common.{◌≡◌, ◌≢◌, ◌+◌, ◌<◌, ◌≤◌, ℕ, zero, suc, List, [], ◌∷◌, ◌++◌, length, get_or, set, Some, refl, sym, ap, ◌∙◌, subst, arith}
use Rattle.std.specs.Prelude.{slice_get}
use Rattle.std.proofs.lemmas.List.{length_push}
use Rattle.std.proofs.lemmas.Option.{slice_get_within, same_Some}
use Rattle.std.proofs.Math.ListN.{length-set}
use mathlib.Core.Logic.{dite}
use native.Mathlib.Decide.{ℕ_discrete}

module _ {A : Type 0} where
  -- what a read of a list gives
  pub got : (xs : List A) (i : ℕ) (x : A) → i < length xs → x ≡ get_or xs i x → slice_get xs i ≡ Some x
  got [] i x lt is = absurd (omega (arith, lt))
  got (y ∷ ys) zero x lt is = ap Some (sym is)
  got (y ∷ ys) (suc i) x lt is = got ys i x (omega (arith, lt)) is

  -- a list read after a write
  pub get_set : (xs : List A) (i : ℕ) (x : A) → i < length xs → slice_get (set xs i x) i ≡ Some x
  get_set [] i x lt = absurd (omega (arith, lt))
  get_set (y ∷ ys) zero x lt = refl
  get_set (y ∷ ys) (suc i) x lt = get_set ys i x (omega (arith, lt))

  pub get_other : (xs : List A) (i k : ℕ) (x : A) → k ≢ i → slice_get (set xs i x) k ≡ slice_get xs k
  get_other [] i k x ne = refl
  get_other (y ∷ ys) zero zero x ne = absurd (ne refl)
  get_other (y ∷ ys) zero (suc k) x ne = refl
  get_other (y ∷ ys) (suc i) zero x ne = refl
  get_other (y ∷ ys) (suc i) (suc k) x ne = get_other ys i k x (λ e. ne (ap suc e))

  -- a list read before its last element, and there
  pub get_before : (xs : List A) (x : A) (k : ℕ) → k < length xs → slice_get (xs ++ x ∷ []) k ≡ slice_get xs k
  get_before [] x k lt = absurd (omega (arith, lt))
  get_before (y ∷ ys) x zero lt = refl
  get_before (y ∷ ys) x (suc k) lt = get_before ys x k (omega (arith, lt))

  pub get_last : (xs : List A) (x : A) → slice_get (xs ++ x ∷ []) (length xs) ≡ Some x
  get_last [] x = refl
  get_last (y ∷ ys) x = get_last ys x

  pub there_is : (xs : List A) (k : ℕ) → k < length xs → (x : A) × (slice_get xs k ≡ Some x)
  there_is [] k lt = absurd (omega (arith, lt))
  there_is (y ∷ ys) zero lt = (y, refl)
  there_is (y ∷ ys) (suc k) lt = there_is ys k (omega (arith, lt))

module _ {A B : Type 0} (R : A → B → A → Type 0) where
  -- so far all places from the length of what is left on are done
  pub record Zipped (xs : List A) (ys : List B) (zs : List A) (left : List B) : Type 0 where
    pub size : length zs ≡ length xs
    pub few : length left ≤ length xs
    pub rest : (k : ℕ) → k < length left → slice_get zs k ≡ slice_get xs k
    pub same : (k : ℕ) → k < length left → slice_get left k ≡ slice_get ys k
    pub done : (k : ℕ) (x : A) (y : B) (z : A) → length left ≤ k → slice_get xs k ≡ Some x → slice_get ys k ≡ Some y → slice_get zs k ≡ Some z → R x y z

  pub zip_begins : (xs : List A) (ys : List B) → length ys ≡ length xs → Zipped xs ys xs ys
  zip_begins xs ys size = record {
    size = refl;
    few = omega (arith, size);
    rest = λ k lt. refl;
    same = λ k lt. refl;
    done = λ k x y z le a b c. let lt = slice_get_within ys k y b in absurd (omega (arith, le, lt));
  }

  pub zip_more : (xs : List A) (ys : List B) (zs : List A) (left left' : List B) (x : A) (y : B) (z : A) → left ≡ left' ++ y ∷ [] → Zipped xs ys zs left
      → (n : ℕ) → n ≡ length left' → x ≡ get_or zs n x → R x y z → Zipped xs ys (set zs n z) left'
  zip_more xs ys zs left left' x y z is h n n_is read r =
      let one : length left ≡ length left' + 1 = ap (λ (l : List B). length l) is ∙ length_push left' y in
      let few = h.few in let size = h.size in
      let in_zs : n < length zs = omega (arith, one, few, size, n_is) in
      record {
        size = length-set zs n z ∙ h.size;
        few = omega (arith, one, few, n_is);
        rest = λ k lt. get_other zs n k z (λ e. absurd (omega (arith, lt, e, n_is))) ∙ h.rest k (omega (arith, lt, one, n_is));
        same = λ k lt. sym (get_before left' y k lt) ∙ ap (λ (l : List B). slice_get l k) (sym is) ∙ h.same k (omega (arith, lt, one, n_is));
        done = λ k a b c le at there now. dite (ℕ_discrete k n)
            (λ (e : k ≡ n).
            let x_is : a ≡ x = same_Some a x (sym at ∙ ap (slice_get xs) e ∙ sym (h.rest n (omega (arith, one, n_is))) ∙ got zs n x in_zs read) in
            let y_is : b ≡ y = same_Some b y (sym there ∙ ap (slice_get ys) e ∙ sym (h.same n (omega (arith, one, n_is))) ∙ ap (λ (l : List B). slice_get l n) is ∙ ap (slice_get (left' ++ y ∷ [])) n_is ∙ get_last left' y) in
            let z_is : c ≡ z = same_Some c z (sym now ∙ ap (slice_get (set zs n z)) e ∙ get_set zs n z in_zs) in
            subst (λ (t : A × B × A). R t.0 t.1 t.2) (λ i. (sym x_is i, sym y_is i, sym z_is i)) r)
            (λ ne. h.done k a b c (omega (arith, le, one, ne, n_is)) at there (sym (get_other zs n k z ne) ∙ now));
      }
