-- What is in a list, in what a test keeps of it, and in what a function makes of it.
use Rattle.std.proofs.Common.{◌≡◌, ◌⊎◌, Bool, true, false, true≢false, cond, List, [], ◌∷◌, map, refl, sym, ap, ◌∙◌, subst, inl, inr, ⊎_elim, arith}
use Rattle.std.specs.List.{filter, Contains}
use Rattle.std.proofs.lemmas.List.Elements.{Contains-append_right, Contains-append_cases, Contains-push_cases}

module _ {A : Type 0} where
  pub in_none : (y : A) → Contains [] y → ⊥
  in_none y h = let lt = h.1 in absurd (omega arith)

  pub in_here : (x : A) (xs : List A) → Contains (x ∷ xs) x
  in_here x xs = (0, omega arith, refl)

  pub in_rest : (x : A) (xs : List A) (y : A) → Contains xs y → Contains (x ∷ xs) y
  in_rest x xs y h = Contains-append_right (x ∷ []) xs y h

  pub in_cases : (x : A) (xs : List A) (y : A) → Contains (x ∷ xs) y → (x ≡ y) ⊎ Contains xs y
  in_cases x xs y h = ⊎_elim
      (λ a. ⊎_elim (λ n. absurd (in_none y n)) (λ e. inl e) (Contains-push_cases [] x y a))
      (λ b. inr b)
      (Contains-append_cases (x ∷ []) xs y h)

  module _ (p : A → Bool) where
    kept_first : (x : A) (b : Bool) (xs ys : List A) (y : A) → (Contains xs y → Contains ys y) → Contains (cond b (x ∷ xs) xs) y → Contains (x ∷ ys) y
    kept_first x true xs ys y f h = ⊎_elim (λ (e : x ≡ y). subst (Contains (x ∷ ys)) e (in_here x ys)) (λ k. in_rest x ys y (f k)) (in_cases x xs y h)
    kept_first x false xs ys y f h = in_rest x ys y (f h)

    -- what is kept was there
    pub filter_in : (xs : List A) (y : A) → Contains (filter p xs) y → Contains xs y
    filter_in [] y h = h
    filter_in (x ∷ xs) y h = kept_first x (p x) (filter p xs) xs y (filter_in xs y) h

    passed_first : (x : A) (b : Bool) (xs : List A) (y : A) → p x ≡ b → (Contains xs y → p y ≡ true) → Contains (cond b (x ∷ xs) xs) y → p y ≡ true
    passed_first x true xs y is f h = ⊎_elim (λ (e : x ≡ y). ap p (sym e) ∙ is) f (in_cases x xs y h)
    passed_first x false xs y is f h = f h

    -- and passes the test
    pub filter_passed : (xs : List A) (y : A) → Contains (filter p xs) y → p y ≡ true
    filter_passed [] y h = absurd (in_none y h)
    filter_passed (x ∷ xs) y h = passed_first x (p x) (filter p xs) y refl (filter_passed xs y) h

    first_kept : (x : A) (b : Bool) (xs : List A) (y : A) → p x ≡ b → x ≡ y → p y ≡ true → Contains (cond b (x ∷ xs) xs) y
    first_kept x true xs y is e t = subst (Contains (x ∷ xs)) e (in_here x xs)
    first_kept x false xs y is e t = absurd (true≢false (sym t ∙ ap p (sym e) ∙ is))

    rest_kept : (x : A) (b : Bool) (xs : List A) (y : A) → Contains xs y → Contains (cond b (x ∷ xs) xs) y
    rest_kept x true xs y h = in_rest x xs y h
    rest_kept x false xs y h = h

    -- what is there and passes is kept
    pub in_filter : (xs : List A) (y : A) → Contains xs y → p y ≡ true → Contains (filter p xs) y
    in_filter [] y h t = h
    in_filter (x ∷ xs) y h t = ⊎_elim
        (λ (e : x ≡ y). first_kept x (p x) (filter p xs) y refl e t)
        (λ k. rest_kept x (p x) (filter p xs) y (in_filter xs y k t))
        (in_cases x xs y h)

    first_stays : (x : A) (b : Bool) (xs ys : List A) → p x ≡ b → p x ≡ true → xs ≡ ys → cond b (x ∷ xs) xs ≡ x ∷ ys
    first_stays x true xs ys is t e = ap (λ l. x ∷ l) e
    first_stays x false xs ys is t e = absurd (true≢false (sym t ∙ is))

    -- where all pass, all are kept
    pub filter_all : (xs : List A) → ((y : A) → Contains xs y → p y ≡ true) → filter p xs ≡ xs
    filter_all [] each = refl
    filter_all (x ∷ xs) each = first_stays x (p x) (filter p xs) xs refl (each x (in_here x xs)) (filter_all xs (λ y h. each y (in_rest x xs y h)))

    first_goes : (x : A) (b : Bool) (xs : List A) → p x ≡ b → p x ≡ false → xs ≡ [] → cond b (x ∷ xs) xs ≡ []
    first_goes x true xs is t e = absurd (true≢false (sym is ∙ t))
    first_goes x false xs is t e = e

    -- where none passes, none is kept
    pub filter_none : (xs : List A) → ((y : A) → Contains xs y → p y ≡ false) → filter p xs ≡ []
    filter_none [] each = refl
    filter_none (x ∷ xs) each = first_goes x (p x) (filter p xs) refl (each x (in_here x xs)) (filter_none xs (λ y h. each y (in_rest x xs y h)))

module _ {A B : Type 0} (f : A → B) where
  pub in_map : (xs : List A) (x : A) → Contains xs x → Contains (map f xs) (f x)
  in_map [] x h = absurd (in_none x h)
  in_map (y ∷ ys) x h = ⊎_elim
      (λ (e : y ≡ x). subst (λ z. Contains (f y ∷ map f ys) (f z)) e (in_here (f y) (map f ys)))
      (λ k. in_rest (f y) (map f ys) (f x) (in_map ys x k))
      (in_cases y ys x h)

  -- what stands in the image is the image of something
  pub map_in : (xs : List A) (z : B) → Contains (map f xs) z → (x : A) × Contains xs x × (f x ≡ z)
  map_in [] z h = absurd (in_none z h)
  map_in (y ∷ ys) z h = ⊎_elim
      (λ (e : f y ≡ z). (y, in_here y ys, e))
      (λ k. let r = map_in ys z k in (r.0, in_rest y ys r.0 r.1, r.2))
      (in_cases (f y) (map f ys) z h)
