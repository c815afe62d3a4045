-- Names, and the entries that were put or taken under one.
use Rattle.std.proofs.Common.{◌≡◌, ◌⊎◌, ℕ, ◌+◌, ◌<◌, zero, suc, Bool, true, false, true≢false, cond, List, [], ◌∷◌, ◌++◌, length, map, refl, sym, ap, ◌∙◌, subst, inl, inr, ⊎_elim, arith}
use Rattle.std.specs.Prelude.{◌==◌, ◌&&◌}
use Rattle.std.specs.List.{filter, Contains}
use Rattle.std.proofs.lemmas.List.{append-nil, map-append}
use Rattle.std.proofs.lemmas.List.Elements.{filter-append}
use mathlib.Core.Option.{some, some-ne-none, some-injective}
use lib.ListN.{get_elem?}
use Rattle.udt_queues.specs.declared.view.Entry.{Entry}
use Rattle.udt_queues.specs.Lines.{same, placed, put_under, took_under}
use Rattle.udt_queues.proofs.Members.{in_none, in_cases, in_here, in_rest}

pub same_self : (p : List ℕ) → same p p ≡ true
same_self [] = refl
same_self (a ∷ rest) = let e : (a == a) ≡ true = grind arith in rw e (same_self rest)

and_left : (x y : Bool) → (x && y) ≡ true → x ≡ true
and_left true y h = refl
and_left false y h = h

and_right : (x y : Bool) → (x && y) ≡ true → y ≡ true
and_right true y h = h
and_right false y h = absurd (true≢false (sym h))

same_head : (a b : ℕ) → (a == b) ≡ true → a ≡ b
same_head a b h = grind arith

-- names that pass the test are equal
pub same_sound : (p q : List ℕ) → same p q ≡ true → p ≡ q
same_sound [] [] h = refl
same_sound [] (b ∷ bs) h = absurd (true≢false (sym h))
same_sound (a ∷ rest) [] h = absurd (true≢false (sym h))
same_sound (a ∷ rest) (b ∷ bs) h =
    let x = same_head a b (and_left (a == b) (same rest bs) h) in
    let y = same_sound rest bs (and_right (a == b) (same rest bs) h) in
    λ i. x i ∷ y i

not_true : (x : Bool) → (x ≡ true → ⊥) → x ≡ false
not_true true h = absurd (h refl)
not_true false h = refl

pub same_not : (p q : List ℕ) → (p ≡ q → ⊥) → same p q ≡ false
same_not p q apart = not_true (same p q) (λ h. apart (same_sound p q h))

-- two names are equal or not
pub names_differ : (p q : List ℕ) → (p ≡ q) ⊎ (p ≡ q → ⊥)
names_differ p q = decided (same p q) refl
  where
    decided : (b : Bool) → same p q ≡ b → (p ≡ q) ⊎ (p ≡ q → ⊥)
    decided true is = inl (same_sound p q is)
    decided false is = inr (λ e. true≢false (sym (same_self p) ∙ ap (same p) e ∙ is))

module _ {T : Type 0} where
  -- one more entry under its name, and under another
  pub put_own : (p : List ℕ) (e : Entry T) (log : List (Entry T)) → p ≡ e.from → put_under p (log ++ e ∷ []) ≡ put_under p log ++ e ∷ []
  put_own p e log is =
      filter-append (λ (e : Entry T). same p e.from) log (e ∷ [])
      ∙ ap (λ (b : Bool). put_under p log ++ cond b (e ∷ []) []) (ap (λ q. same q e.from) is ∙ same_self e.from)

  pub put_other : (p : List ℕ) (e : Entry T) (log : List (Entry T)) → (p ≡ e.from → ⊥) → put_under p (log ++ e ∷ []) ≡ put_under p log
  put_other p e log apart =
      filter-append (λ (e : Entry T). same p e.from) log (e ∷ [])
      ∙ ap (λ (b : Bool). put_under p log ++ cond b (e ∷ []) []) (same_not p e.from apart)
      ∙ append-nil (put_under p log)

  pub took_own : (p : List ℕ) (e : Entry T) (done : List (List ℕ × Entry T)) → took_under p (done ++ (p, e) ∷ []) ≡ took_under p done ++ e ∷ []
  took_own p e done =
      ap (map (λ (d : List ℕ × Entry T). d.1)) (filter-append (λ (d : List ℕ × Entry T). same p d.0) done ((p, e) ∷ []))
      ∙ map-append (λ (d : List ℕ × Entry T). d.1) (filter (λ (d : List ℕ × Entry T). same p d.0) done) (cond (same p p) ((p, e) ∷ []) [])
      ∙ ap (λ (b : Bool). took_under p done ++ map (λ (d : List ℕ × Entry T). d.1) (cond b ((p, e) ∷ []) [])) (same_self p)

  pub took_other : (p q : List ℕ) (e : Entry T) (done : List (List ℕ × Entry T)) → (p ≡ q → ⊥) → took_under p (done ++ (q, e) ∷ []) ≡ took_under p done
  took_other p q e done apart =
      ap (map (λ (d : List ℕ × Entry T). d.1)) (filter-append (λ (d : List ℕ × Entry T). same p d.0) done ((q, e) ∷ []))
      ∙ map-append (λ (d : List ℕ × Entry T). d.1) (filter (λ (d : List ℕ × Entry T). same p d.0) done) (cond (same p q) ((q, e) ∷ []) [])
      ∙ ap (λ (b : Bool). took_under p done ++ map (λ (d : List ℕ × Entry T). d.1) (cond b ((q, e) ∷ []) [])) (same_not p q apart)
      ∙ append-nil (took_under p done)

  -- the entry of one more value
  pub placed_more : (p : List ℕ) (at : ℕ) (xs : List T) (x : T) → placed p at (xs ++ x ∷ []) ≡ placed p at xs ++ record { from = p; place = at + length xs; value = x } ∷ []
  placed_more p at [] x = let e : at ≡ at + 0 = omega arith in ap (λ (n : ℕ). record { from = p; place = n; value = x } ∷ []) e
  placed_more p at (y ∷ ys) x =
      let e : at + 1 + length ys ≡ at + suc (length ys) = omega arith in
      ap (λ l. record { from = p; place = at; value = y } ∷ l) (placed_more p (at + 1) ys x ∙ ap (λ (n : ℕ). placed p (at + 1) ys ++ record { from = p; place = n; value = x } ∷ []) e)

  -- an entry with a place is the value at that place
  pub placed_is : (p : List ℕ) (at : ℕ) (xs : List T) (e : Entry T) → Contains (placed p at xs) e → (n : ℕ) × (e.place ≡ at + n) × (n < length xs) × (get_elem? xs n ≡ some e.value)
  placed_is p at [] e h = absurd (in_none e h)
  placed_is p at (x ∷ xs) e h = ⊎_elim
      (λ (is : record { from = p; place = at; value = x } ≡ e). (0, sym (ap (λ (e : Entry T). e.place) is) ∙ omega arith, omega arith, ap (λ (e : Entry T). some e.value) is))
      (λ (k : Contains (placed p (at + 1) xs) e).
      let r = placed_is p (at + 1) xs e k in let a = r.1 in let b = r.2 in
      (suc r.0, omega (arith, a), omega (arith, b), r.3))
      (in_cases (record { from = p; place = at; value = x }) (placed p (at + 1) xs) e h)

  -- and each place has its entry
  pub placed_at : (p : List ℕ) (at : ℕ) (xs : List T) (n : ℕ) (x : T) → get_elem? xs n ≡ some x → Contains (placed p at xs) (record { from = p; place = at + n; value = x })
  placed_at p at [] n x e = absurd (some-ne-none x (sym e))
  placed_at p at (y ∷ ys) zero x e =
      let i : at ≡ at + 0 = omega arith in
      subst (λ (z : ℕ × T). Contains (placed p at (y ∷ ys)) (record { from = p; place = z.0; value = z.1 })) (λ k. (i k, some-injective y x e k)) (in_here (record { from = p; place = at; value = y }) (placed p (at + 1) ys))
  placed_at p at (y ∷ ys) (suc n) x e =
      let i : at + 1 + n ≡ at + suc n = omega arith in
      subst (λ (m : ℕ). Contains (placed p at (y ∷ ys)) (record { from = p; place = m; value = x })) i
      (in_rest (record { from = p; place = at; value = y }) (placed p (at + 1) ys) (record { from = p; place = at + 1 + n; value = x }) (placed_at p (at + 1) ys n x e))

  -- the values of entries with places are the values
  pub placed_values : (p : List ℕ) (at : ℕ) (xs : List T) → map (λ (e : Entry T). e.value) (placed p at xs) ≡ xs
  placed_values p at [] = refl
  placed_values p at (x ∷ xs) = ap (λ l. x ∷ l) (placed_values p (at + 1) xs)
