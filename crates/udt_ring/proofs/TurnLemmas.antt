-- What is at a place of a list that begins later, and what a change there changes.
use Rattle.std.proofs.Common.{◌≡◌, ℕ, zero, suc, ◌+◌, ◌-◌, ◌<◌, ◌≤◌, List, [], ◌∷◌, ◌++◌, length, take, drop, set, replicate, refl, ap, ◌∙◌, sym, arith, append_assoc}
use Rattle.std.specs.Prelude.{slice_get}
use Rattle.std.proofs.lemmas.List.{length-take, length-drop, length-append, length-replicate, replicate-append-replicate, take-append-drop, drop-drop, drop-append-le, take-append-le, take-take, set-append_left, set-append_right, take-set-le, drop-set-lt, drop-set-add}
use Rattle.udt_ring.specs.Parts.{turned}

module _ {X : Type 0} where
  -- ---- look-ups

  pub slice_get-drop : (n i : ℕ) (xs : List X) → slice_get (drop n xs) i ≡ slice_get xs (n + i)
  slice_get-drop zero i xs = let e : 0 + i ≡ i = omega arith in rw e refl
  slice_get-drop (suc n) i [] = refl
  slice_get-drop (suc n) i (x ∷ xs) = let e : suc n + i ≡ suc (n + i) = omega arith in rw e (slice_get-drop n i xs)

  pub slice_get-take : (n i : ℕ) (xs : List X) → i < n → slice_get (take n xs) i ≡ slice_get xs i
  slice_get-take zero i xs lt = absurd (omega (arith, lt))
  slice_get-take (suc n) i [] lt = refl
  slice_get-take (suc n) zero (x ∷ xs) lt = refl
  slice_get-take (suc n) (suc i) (x ∷ xs) lt = slice_get-take n i xs (omega (arith, lt))

  pub slice_get-append_left : (xs ys : List X) (i : ℕ) → i < length xs → slice_get (xs ++ ys) i ≡ slice_get xs i
  slice_get-append_left [] ys i lt = absurd (omega (arith, lt))
  slice_get-append_left (x ∷ xs) ys zero lt = refl
  slice_get-append_left (x ∷ xs) ys (suc i) lt = slice_get-append_left xs ys i (omega (arith, lt))

  pub slice_get-append_right : (xs ys : List X) (i : ℕ) → slice_get (xs ++ ys) (length xs + i) ≡ slice_get ys i
  slice_get-append_right [] ys i = let e : 0 + i ≡ i = omega arith in rw e refl
  slice_get-append_right (x ∷ xs) ys i = let e : suc (length xs) + i ≡ suc (length xs + i) = omega arith in rw e (slice_get-append_right xs ys i)

  -- what is before the end stands this many places later ..
  pub get-turned-before : (at i : ℕ) (xs : List X) → at + i < length xs → slice_get (turned at xs) i ≡ slice_get xs (at + i)
  get-turned-before at i xs lt =
      slice_get-append_left (drop at xs) (take at xs) i (omega (arith, lt, length-drop at xs)) ∙ slice_get-drop at i xs

  -- .. and what is after it, at the list's beginning
  pub get-turned-following : (at i : ℕ) (xs : List X) → at ≤ length xs → length xs ≤ at + i → i < length xs → slice_get (turned at xs) i ≡ slice_get xs (at + i - length xs)
  get-turned-following at i xs within following lt =
      let place : i ≡ length (drop at xs) + (at + i - length xs) = omega (arith, length-drop at xs, within, following) in
      ap (slice_get (turned at xs)) place ∙ slice_get-append_right (drop at xs) (take at xs) (at + i - length xs)
      ∙ slice_get-take at (at + i - length xs) xs (omega (arith, within, following, lt))

  -- ---- changes

  take-set-lt : (n i : ℕ) (xs : List X) (x : X) → i < n → take n (set xs i x) ≡ set (take n xs) i x
  take-set-lt zero i xs x lt = absurd (omega (arith, lt))
  take-set-lt (suc n) i [] x lt = refl
  take-set-lt (suc n) zero (y ∷ xs) x lt = refl
  take-set-lt (suc n) (suc i) (y ∷ xs) x lt = rw (take-set-lt n i xs x (omega (arith, lt))) refl

  pub set-turned-before : (at i : ℕ) (xs : List X) (x : X) → at + i < length xs → turned at (set xs (at + i) x) ≡ set (turned at xs) i x
  set-turned-before at i xs x lt =
      rw (drop-set-add at xs i x, take-set-le at xs (at + i) x (omega arith))
      (sym (set-append_left (drop at xs) (take at xs) i x (omega (arith, lt, length-drop at xs))))

  pub set-turned-following : (at i : ℕ) (xs : List X) (x : X) → at ≤ length xs → length xs ≤ at + i → i < length xs
      → turned at (set xs (at + i - length xs) x) ≡ set (turned at xs) i x
  set-turned-following at i xs x within following lt =
      let place : i - length (drop at xs) ≡ at + i - length xs = omega (arith, length-drop at xs, within, following) in
      let back = set-append_right (drop at xs) (take at xs) (length (drop at xs)) i x refl (omega (arith, length-drop at xs, within, following)) in
      rw (drop-set-lt at xs (at + i - length xs) x (omega (arith, within, following, lt)), take-set-lt at (at + i - length xs) xs x (omega (arith, within, following, lt)))
      (sym (rw place at back))

  -- ---- turning on

  take_then : (n m : ℕ) (xs : List X) → take n xs ++ take m (drop n xs) ≡ take (n + m) xs
  take_then zero m xs = let e : 0 + m ≡ m = omega arith in rw e refl
  take_then (suc n) zero [] = let e : suc n + 0 ≡ suc n = omega arith in rw e refl
  take_then (suc n) (suc m) [] = let e : suc n + suc m ≡ suc (n + suc m) = omega arith in rw e refl
  take_then (suc n) m (x ∷ xs) = let e : suc n + m ≡ suc (n + m) = omega arith in rw (e, take_then n m xs) refl

  pub turned-before : (at by : ℕ) (xs : List X) → at + by ≤ length xs → turned (at + by) xs ≡ turned by (turned at xs)
  turned-before at by xs le =
      let len : by ≤ length (drop at xs) = omega (arith, le, length-drop at xs) in
      rw (drop-append-le by (drop at xs) (take at xs) len, take-append-le by (drop at xs) (take at xs) len, drop-drop by at xs)
      (ap (λ (ys : List X). drop (at + by) xs ++ ys) (sym (take_then at by xs)) ∙ sym (append_assoc (drop (at + by) xs) (take at xs) (take by (drop at xs))))

  drop-append-add : (xs ys : List X) (n : ℕ) → drop (length xs + n) (xs ++ ys) ≡ drop n ys
  drop-append-add [] ys n = let e : 0 + n ≡ n = omega arith in rw e refl
  drop-append-add (x ∷ xs) ys n = let e : suc (length xs) + n ≡ suc (length xs + n) = omega arith in rw e (drop-append-add xs ys n)

  take-append-add : (xs ys : List X) (n : ℕ) → take (length xs + n) (xs ++ ys) ≡ xs ++ take n ys
  take-append-add [] ys n = let e : 0 + n ≡ n = omega arith in rw e refl
  take-append-add (x ∷ xs) ys n = let e : suc (length xs) + n ≡ suc (length xs + n) = omega arith in rw (e, take-append-add xs ys n) refl

  pub turned-following : (at by : ℕ) (xs : List X) → at ≤ length xs → length xs ≤ at + by → by ≤ length xs
      → turned (at + by - length xs) xs ≡ turned by (turned at xs)
  turned-following at by xs within following le =
      let more = at + by - length xs in
      let len : by ≡ length (drop at xs) + more = omega (arith, length-drop at xs, within, following) in
      let few : more ≤ at = omega (arith, within, le) in
      let back : drop by (turned at xs) ≡ drop more (take at xs) =
      ap (λ (n : ℕ). drop n (turned at xs)) len ∙ drop-append-add (drop at xs) (take at xs) more in
      let front : take by (turned at xs) ≡ drop at xs ++ take more xs =
      ap (λ (n : ℕ). take n (turned at xs)) len ∙ take-append-add (drop at xs) (take at xs) more ∙ ap (λ (ys : List X). drop at xs ++ ys) (take-take more at xs few) in
      let rest : drop more xs ≡ drop more (take at xs) ++ drop at xs =
      ap (drop more) (sym (take-append-drop at xs)) ∙ drop-append-le more (take at xs) (drop at xs) (omega (arith, few, within, length-take at xs)) in
      ap (λ (ys : List X). ys ++ take more xs) rest ∙ append_assoc (drop more (take at xs)) (drop at xs) (take more xs)
      ∙ ap (λ (ys : List X). drop more (take at xs) ++ ys) (sym front) ∙ ap (λ (ys : List X). ys ++ take by (turned at xs)) (sym back)

  -- ---- turning past one

  -- the first of a list that isn't empty
  pub turned_first : (xs : List X) (x : X) → 0 < length xs → turned 1 (set xs 0 x) ≡ drop 1 xs ++ x ∷ []
  turned_first [] x some = absurd (omega (arith, some))
  turned_first (y ∷ xs) x some = refl

  -- turning past one more, each with the same in its place
  pub passed_more : (i : ℕ) (xs : List X) (x : X) → i < length xs → drop 1 (drop i xs ++ replicate i x) ++ x ∷ [] ≡ drop (i + 1) xs ++ replicate (i + 1) x
  passed_more i xs x lt =
      let some : 1 ≤ length (drop i xs) = omega (arith, lt, length-drop i xs) in
      rw (drop-append-le 1 (drop i xs) (replicate i x) some, drop-drop 1 i xs)
      (append_assoc (drop (i + 1) xs) (replicate i x) (x ∷ []) ∙ ap (λ (ys : List X). drop (i + 1) xs ++ ys) (replicate-append-replicate i 1 x))

  -- there are as many as before
  pub length-passed : (i : ℕ) (xs : List X) (x : X) → i ≤ length xs → length (drop i xs ++ replicate i x) ≡ length xs
  length-passed i xs x le = omega (arith, le, length-append (drop i xs) (replicate i x), length-drop i xs, length-replicate i x)
