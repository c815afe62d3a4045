-- One list of several changes, and what a pass says of all.
use Rattle.std.proofs.Common.{◌≡◌, ◌+◌, ◌<◌, ℕ, zero, suc, Bool, true, List, [], ◌∷◌, ◌++◌, length, map, get_or, set, Some, refl, sym, ap, ◌∙◌, subst, arith}
use Rattle.std.specs.Prelude.{slice_get}
use Rattle.std.proofs.lemmas.List.{map-set, length_push}
use Rattle.std.proofs.Math.Seq.{map-set_same}
use Rattle.std.proofs.lemmas.Option.{same_Some}
use mathlib.Core.Logic.{dite}
use native.Mathlib.Decide.{ℕ_discrete}
use Rattle.udt_queues.specs.declared.view.View.{View}
use Rattle.udt_queues.specs.declared.lane.Lane.{Lane}
use Rattle.udt_queues.specs.Lines.{Puts, Takes}
use Rattle.udt_queues.specs.Lists.{view_of, list_of, IsFoundEmpty}
use Rattle.udt_queues.proofs.Zips.{Zipped, got, get_last}

-- what a change of one list makes of the views of all
abbrev pub SentAt : {M : Type 0} → ℕ → M → List (View M) → List (View M) → Type 0
SentAt {M} to message before after = (v : View M) × (w : View M) × (slice_get before to ≡ Some v) × Puts v message w × (after ≡ set before to w)

abbrev pub TakenFrom : {M : Type 0} → List Bool → M → List (View M) → List (View M) → Type 0
TakenFrom {M} takes message before after = (at : ℕ) × (v : View M) × (w : View M) × (slice_get takes at ≡ Some true) × (slice_get before at ≡ Some v) × Takes v message w
    × (after ≡ set before at w)

module _ {A B : Type 0} (f : A → B) where
  -- a read of what a function makes of each
  pub got_of : (xs : List A) (i : ℕ) (x : A) → i < length xs → x ≡ get_or xs i x → slice_get (map f xs) i ≡ Some (f x)
  got_of [] i x lt is = absurd (omega (arith, lt))
  got_of (y ∷ ys) zero x lt is = ap (λ (z : A). Some (f z)) (sym is)
  got_of (y ∷ ys) (suc i) x lt is = got_of ys i x (omega (arith, lt)) is

  pub got_map : (xs : List A) (i : ℕ) (x : A) → slice_get xs i ≡ Some x → slice_get (map f xs) i ≡ Some (f x)
  got_map [] i x e = absurd (cc)
  got_map (y ∷ ys) zero x e = ap (λ (z : A). Some (f z)) (same_Some y x e)
  got_map (y ∷ ys) (suc i) x e = got_map ys i x e

  pub within_map : (xs : List A) (i : ℕ) (b : B) → slice_get (map f xs) i ≡ Some b → i < length xs
  within_map [] i b e = absurd (cc)
  within_map (y ∷ ys) zero b e = omega arith
  within_map (y ∷ ys) (suc i) b e = let h = within_map ys i b e in omega (arith, h)

  pub same_sizes : (xs ys : List A) → map f xs ≡ map f ys → length xs ≡ length ys
  same_sizes [] [] e = refl
  same_sizes [] (y ∷ ys) e = absurd (cc)
  same_sizes (x ∷ xs) [] e = absurd (cc)
  same_sizes (x ∷ xs) (y ∷ ys) e = ap suc (same_sizes xs ys (cc))

module _ {M : Type 0} (xs : List (Lane M)) (i : ℕ) (old new : Lane M) (is : old ≡ get_or xs i old) where
  pub lists_kept : list_of new ≡ list_of old → map list_of (set xs i new) ≡ map list_of xs
  lists_kept e = map-set_same list_of xs i new old (e ∙ ap list_of is)

  pub takes_kept : new.takes ≡ old.takes → map (λ (l : Lane M). l.takes) (set xs i new) ≡ map (λ (l : Lane M). l.takes) xs
  takes_kept e = map-set_same (λ (l : Lane M). l.takes) xs i new old (e ∙ ap (λ (l : Lane M). l.takes) is)

  pub views_kept : view_of new ≡ view_of old → map view_of (set xs i new) ≡ map view_of xs
  views_kept e = map-set_same view_of xs i new old (e ∙ ap view_of is)

module _ {M : Type 0} (xs : List (Lane M)) (i : ℕ) (old new : Lane M) (lt : i < length xs) (is : old ≡ get_or xs i old) where
  pub sends : (m : M) → Puts (view_of old) m (view_of new) → SentAt i m (map view_of xs) (map view_of (set xs i new))
  sends m puts = (view_of old, view_of new, got_of view_of xs i old lt is, puts, map-set view_of xs i new)

  -- after others of its lists were found empty
  pub takes_at : (vs : List (View M)) (ts : List Bool) (m : M) → map view_of xs ≡ vs → map (λ (l : Lane M). l.takes) xs ≡ ts → old.takes ≡ true → Takes (view_of old) m (view_of new)
      → TakenFrom ts m vs (map view_of (set xs i new))
  takes_at vs ts m views takes may took = (
    i,
    view_of old,
    view_of new,
    ap (λ (l : List Bool). slice_get l i) (sym takes) ∙ got_of (λ (l : Lane M). l.takes) xs i old lt is ∙ ap Some may,
    ap (λ (l : List (View M)). slice_get l i) (sym views) ∙ got_of view_of xs i old lt is,
    took,
    map-set view_of xs i new ∙ ap (λ (l : List (View M)). set l i (view_of new)) views,
  )

  pub found_more : (vs : List (View M)) (ts : List Bool) → map view_of xs ≡ vs → map (λ (l : Lane M). l.takes) xs ≡ ts → (old.takes ≡ true → IsFoundEmpty (view_of old))
      → ((k : ℕ) (v : View M) → k < i → slice_get ts k ≡ Some true → slice_get vs k ≡ Some v → IsFoundEmpty v)
      → (k : ℕ) (v : View M) → k < i + 1 → slice_get ts k ≡ Some true → slice_get vs k ≡ Some v → IsFoundEmpty v
  found_more vs ts views takes empty before k v below may there = dite (ℕ_discrete k i)
      (λ (e : k ≡ i).
      let t : old.takes ≡ true = same_Some old.takes true (sym (got_of (λ (l : Lane M). l.takes) xs i old lt is) ∙ ap (λ (l : List Bool). slice_get l i) takes ∙ ap (slice_get ts) (sym e) ∙ may) in
      let u : view_of old ≡ v = same_Some (view_of old) v (sym (got_of view_of xs i old lt is) ∙ ap (λ (l : List (View M)). slice_get l i) views ∙ ap (slice_get vs) (sym e) ∙ there) in
      subst IsFoundEmpty u (empty t))
      (λ ne. before k v (omega (arith, below, ne)) may there)

-- the right that goes and the one that it is joined into are to one list
pub one_list : {M : Type 0} {R : Lane M → Lane M → Lane M → Type 0} (xs ys zs left left' : List (Lane M)) (y x : Lane M) → map list_of ys ≡ map list_of xs → map list_of zs ≡ map list_of xs → left ≡ left' ++ y ∷ []
    → Zipped R xs ys zs left → (n : ℕ) → n ≡ length left' → x ≡ get_or zs n x → list_of y ≡ list_of x
one_list xs ys zs left left' y x theirs ours is h n n_is read =
    let one : length left ≡ length left' + 1 = ap (λ l. length l) is ∙ length_push left' y in
    let few = h.few in let size = h.size in
    let y_at = sym (h.same n (omega (arith, one, n_is))) ∙ ap (λ l. slice_get l n) is ∙ ap (slice_get (left' ++ y ∷ [])) n_is ∙ get_last left' y in
    let x_at = got zs n x (omega (arith, one, few, size, n_is)) read in
    same_Some (list_of y) (list_of x) (sym (got_map list_of ys n y y_at) ∙ ap (λ l. slice_get l n) (theirs ∙ sym ours) ∙ got_map list_of zs n x x_at)
