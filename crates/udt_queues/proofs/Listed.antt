-- Moments under IDs: what comes first, and what a change of one leaves.
use Rattle.std.proofs.Common.{◌≡◌, ◌≢◌, ◌⊎◌, ◌<◌, ◌≤◌, ◌==◌, ℕ, Bool, true, false, nat_lt, List, [], ◌∷◌, ◌++◌, length, Some, None, refl, sym, ap, ◌∙◌, subst, inl, inr, ⊎_elim, length-append, arith}
use Rattle.std.specs.Prelude.{if◌then◌else◌}
use Rattle.std.proofs.Common.{nat_cmp, Less, Equal, Greater}
use Rattle.std.proofs.lemmas.Bool.Decides.{nat_tests}
use Rattle.std.specs.List.{Contains}
use Rattle.std.proofs.lemmas.List.Elements.{Contains-append_left, Contains-append_right, Contains-append_cases}
use Rattle.std.proofs.lemmas.Option.{same_Some}
use Rattle.udt_queues.specs.declared.tree.Listing.{Listing}
use Rattle.udt_queues.specs.Listings.{NotAfter, IsLesser, IsLeast, IsRising, IsFirst, moment_of, place, without}
use Rattle.udt_queues.proofs.Members.{in_none, in_here, in_rest, in_cases}

not_after : (x : Listing) → NotAfter x x
not_after x = inr (refl, omega arith)

follows : (x y z : Listing) → NotAfter x y → NotAfter y z → NotAfter x z
follows x y z (inl a) (inl b) = inl (omega (arith, a, b))
follows x y z (inl a) (inr b) = let e = b.0 in inl (omega (arith, a, e))
follows x y z (inr a) (inl b) = let e = a.0 in inl (omega (arith, b, e))
follows x y z (inr a) (inr b) = let le = a.1 in let le' = b.1 in inr (a.0 ∙ b.0, omega (arith, le, le'))

-- a listing alone
pub least_alone : (k : Listing) (t : List Listing) → t ≡ [] → IsLeast k (k ∷ t)
least_alone k t is = subst (λ t. IsLeast k (k ∷ t)) (sym is) (record {
  there = in_here k [];
  least = λ y c. ⊎_elim (λ (e : k ≡ y). subst (NotAfter k) e (not_after k)) (λ n. absurd (in_none y n)) (in_cases k [] y c);
})

-- and with the least of others
pub least_more : (k o m : Listing) (t : List Listing) → IsLeast o t → IsLesser m k o → IsLeast m (k ∷ t)
least_more k o m t least lesser = record {
  there = ⊎_elim (λ (e : m ≡ k). subst (Contains (k ∷ t)) (sym e) (in_here k t)) (λ (e : m ≡ o). subst (Contains (k ∷ t)) (sym e) (in_rest k t o least.there)) lesser.one;
  least = λ y c. ⊎_elim (λ (e : k ≡ y). subst (NotAfter m) e lesser.first) (λ h. follows m o y lesser.second (least.least y h)) (in_cases k t y c);
}

-- the least on one side and of the listing, and then with the other side
pub least_both : (f m k : Listing) (l r : List Listing) → IsLeast f (k ∷ l) → IsLeast m (f ∷ r) → IsLeast m (l ++ k ∷ r)
least_both f m k l r first last =
    let mf : NotAfter m f = last.least f (in_here f r) in
    let is_there : (y : Listing) → Contains (k ∷ l) y → Contains (l ++ k ∷ r) y = λ y c. ⊎_elim
    (λ (e : k ≡ y). Contains-append_right l (k ∷ r) y (subst (Contains (k ∷ r)) e (in_here k r)))
    (λ h. Contains-append_left l (k ∷ r) y h)
    (in_cases k l y c) in
    record {
      there = ⊎_elim
          (λ (e : f ≡ m). is_there m (subst (Contains (k ∷ l)) e first.there))
          (λ h. Contains-append_right l (k ∷ r) m (in_rest k r m h))
          (in_cases f r m last.there);
      least = λ y c. ⊎_elim
          (λ h. follows m f y mf (first.least y (in_rest k l y h)))
          (λ h. ⊎_elim
          (λ (e : k ≡ y). follows m f y mf (first.least y (subst (Contains (k ∷ l)) e (in_here k l))))
          (λ i. last.least y (in_rest f r y i))
          (in_cases k r y h))
          (Contains-append_cases l (k ∷ r) y c);
    }

-- the parts of a rising list rise
pub rising_left : (l : List Listing) (k : Listing) (r : List Listing) → IsRising (l ++ k ∷ r) → IsRising l
rising_left [] k r s = tt
rising_left (x ∷ xs) k r s = ((λ y c. s.0 y (Contains-append_left xs (k ∷ r) y c)), rising_left xs k r s.1)

pub rising_right : (l : List Listing) (k : Listing) (r : List Listing) → IsRising (l ++ k ∷ r) → IsRising r
rising_right [] k r s = s.1
rising_right (x ∷ xs) k r s = rising_right xs k r s.1

-- those before are below, and those after above
below_middle : (l : List Listing) (k : Listing) (r : List Listing) (y : Listing) → IsRising (l ++ k ∷ r) → Contains l y → y.id < k.id
below_middle [] k r y s c = absurd (in_none y c)
below_middle (x ∷ xs) k r y s c = ⊎_elim
    (λ (e : x ≡ y). subst (λ (z : Listing). z.id < k.id) e (s.0 k (Contains-append_right xs (k ∷ r) k (in_here k r))))
    (λ h. below_middle xs k r y s.1 h)
    (in_cases x xs y c)

above_middle : (l : List Listing) (k : Listing) (r : List Listing) (y : Listing) → IsRising (l ++ k ∷ r) → Contains r y → k.id < y.id
above_middle [] k r y s c = s.0 y c
above_middle (x ∷ xs) k r y s c = above_middle xs k r y s.1 c

-- a listing goes to its side of another
pub place_left : (e k : Listing) (l r : List Listing) → e.id < k.id → place e (l ++ k ∷ r) ≡ place e l ++ k ∷ r
place_left e k [] r lt = grind arith
place_left e k (x ∷ xs) r lt = let h = place_left e k xs r lt in grind arith

pub place_right : (e k : Listing) (l r : List Listing) → k.id < e.id → IsRising (l ++ k ∷ r) → place e (l ++ k ∷ r) ≡ l ++ k ∷ place e r
place_right e k [] r lt s = grind arith
place_right e k (x ∷ xs) r lt s =
    let b : x.id < k.id = s.0 k (Contains-append_right xs (k ∷ r) k (in_here k r)) in
    let h = place_right e k xs r lt s.1 in grind arith

pub place_here : (e k : Listing) (l r : List Listing) → k.id ≡ e.id → IsRising (l ++ k ∷ r) → place e (l ++ k ∷ r) ≡ l ++ e ∷ r
place_here e k [] r is s = grind arith
place_here e k (x ∷ xs) r is s =
    let b : x.id < k.id = s.0 k (Contains-append_right xs (k ∷ r) k (in_here k r)) in
    let h = place_here e k xs r is s.1 in grind arith

-- a list without an ID that it doesn't have
without_none : (id : ℕ) (xs : List Listing) → ((y : Listing) → Contains xs y → y.id ≢ id) → without id xs ≡ xs
without_none id [] f = refl
without_none id (x ∷ xs) f =
    let n : x.id ≢ id = f x (in_here x xs) in
    let h = without_none id xs (λ y c. f y (in_rest x xs y c)) in grind arith

pub without_left : (id : ℕ) (k : Listing) (l r : List Listing) → id < k.id → IsRising (l ++ k ∷ r) → without id (l ++ k ∷ r) ≡ without id l ++ k ∷ r
without_left id k [] r lt s =
    without_none id (k ∷ r) (λ y c e. ⊎_elim
    (λ (is : k ≡ y). let i = ap (λ (z : Listing). z.id) is in absurd (omega (arith, lt, i, e)))
    (λ h. let a = s.0 y h in absurd (omega (arith, lt, a, e)))
    (in_cases k r y c))
without_left id k (x ∷ xs) r lt s = let h = without_left id k xs r lt s.1 in grind arith

pub without_right : (id : ℕ) (k : Listing) (l r : List Listing) → k.id < id → IsRising (l ++ k ∷ r) → without id (l ++ k ∷ r) ≡ l ++ k ∷ without id r
without_right id k [] r lt s = grind arith
without_right id k (x ∷ xs) r lt s =
    let b : x.id < k.id = s.0 k (Contains-append_right xs (k ∷ r) k (in_here k r)) in
    let h = without_right id k xs r lt s.1 in grind arith

pub without_here : (id : ℕ) (k : Listing) (l r : List Listing) → k.id ≡ id → IsRising (l ++ k ∷ r) → without id (l ++ k ∷ r) ≡ l ++ r
without_here id k [] r is s = grind arith
without_here id k (x ∷ xs) r is s =
    let b : x.id < k.id = s.0 k (Contains-append_right xs (k ∷ r) k (in_here k r)) in
    let h = without_here id k xs r is s.1 in grind arith

-- what is placed or left stems from there
placed_in : (e : Listing) (xs : List Listing) (y : Listing) → Contains (place e xs) y → Contains xs y ⊎ (e ≡ y)
placed_in e [] y c = ⊎_elim (λ i. inr i) (λ n. absurd (in_none y n)) (in_cases e [] y c)
placed_in e (x ∷ xs) y c = by_cases (placed_in e xs y) (nat_lt e.id x.id) (x.id == e.id) c
  where
    by_cases : (Contains (place e xs) y → Contains xs y ⊎ (e ≡ y)) → (a b : Bool) → Contains (if a then e ∷ x ∷ xs else (if b then e ∷ xs else x ∷ place e xs)) y → Contains (x ∷ xs) y ⊎ (e ≡ y)
    by_cases rest true b c = ⊎_elim (λ i. inr i) (λ h. inl h) (in_cases e (x ∷ xs) y c)
    by_cases rest false true c = ⊎_elim (λ i. inr i) (λ h. inl (in_rest x xs y h)) (in_cases e xs y c)
    by_cases rest false false c = ⊎_elim
        (λ (i : x ≡ y). inl (subst (Contains (x ∷ xs)) i (in_here x xs)))
        (λ h. ⊎_elim (λ k. inl (in_rest x xs y k)) (λ i. inr i) (rest h))
        (in_cases x (place e xs) y c)

left_in : (id : ℕ) (xs : List Listing) (y : Listing) → Contains (without id xs) y → Contains xs y
left_in id [] y c = c
left_in id (x ∷ xs) y c = by_cases (left_in id xs y) (x.id == id) c
  where
    by_cases : (Contains (without id xs) y → Contains xs y) → (a : Bool) → Contains (if a then xs else x ∷ without id xs) y → Contains (x ∷ xs) y
    by_cases rest true c = in_rest x xs y c
    by_cases rest false c = ⊎_elim
        (λ (i : x ≡ y). subst (Contains (x ∷ xs)) i (in_here x xs))
        (λ h. in_rest x xs y (rest h))
        (in_cases x (without id xs) y c)

below_true : (a b : ℕ) → nat_lt a b ≡ true → a < b
below_true a b e = grind arith

below_false : (a b : ℕ) → nat_lt a b ≡ false → b ≤ a
below_false a b e = grind arith

equal_true : (a b : ℕ) → (a == b) ≡ true → a ≡ b
equal_true a b e = grind arith

equal_false : (a b : ℕ) → (a == b) ≡ false → a ≢ b
equal_false a b e = grind arith

pub rising_placed : (e : Listing) (xs : List Listing) → IsRising xs → IsRising (place e xs)
rising_placed e [] s = ((λ y c. absurd (in_none y c)), tt)
rising_placed e (x ∷ xs) s = by_cases (rising_placed e xs s.1) (nat_lt e.id x.id) (x.id == e.id) refl refl
  where
    by_cases : IsRising (place e xs) → (a b : Bool) → nat_lt e.id x.id ≡ a → (x.id == e.id) ≡ b → IsRising (if a then e ∷ x ∷ xs else (if b then e ∷ xs else x ∷ place e xs))
    by_cases rest true b p q =
        let lt = below_true e.id x.id p in
        ((λ y c. ⊎_elim (λ (i : x ≡ y). subst (λ (z : Listing). e.id < z.id) i lt) (λ h. let l = s.0 y h in omega (arith, l, lt)) (in_cases x xs y c)), s)
    by_cases rest false true p q =
        let is = equal_true x.id e.id q in
        ((λ y c. let l = s.0 y c in omega (arith, l, is)), s.1)
    by_cases rest false false p q =
        let ne = equal_false x.id e.id q in let le = below_false e.id x.id p in
        ((λ y c. ⊎_elim (λ h. s.0 y h) (λ (i : e ≡ y). subst (λ (z : Listing). x.id < z.id) i (omega (arith, ne, le))) (placed_in e xs y c)), rest)

pub rising_without : (id : ℕ) (xs : List Listing) → IsRising xs → IsRising (without id xs)
rising_without id [] s = tt
rising_without id (x ∷ xs) s = by_cases (rising_without id xs s.1) (x.id == id)
  where
    by_cases : IsRising (without id xs) → (a : Bool) → IsRising (if a then xs else x ∷ without id xs)
    by_cases rest true = s.1
    by_cases rest false = ((λ y c. s.0 y (left_in id xs y c)), rest)

moment_absent : (q : ℕ) (xs : List Listing) → ((y : Listing) → Contains xs y → y.id ≢ q) → moment_of q xs ≡ None
moment_absent q [] f = refl
moment_absent q (x ∷ xs) f =
    let n : x.id ≢ q = f x (in_here x xs) in
    let h = moment_absent q xs (λ y c. f y (in_rest x xs y c)) in grind arith

-- the moment under an ID of one side of a listing
pub moment_left : (q : ℕ) (k : Listing) (l r : List Listing) → q < k.id → IsRising (l ++ k ∷ r) → moment_of q (l ++ k ∷ r) ≡ moment_of q l
moment_left q k [] r lt s = moment_absent q (k ∷ r) (λ y c e. ⊎_elim
    (λ (i : k ≡ y). let j = ap (λ (z : Listing). z.id) i in absurd (omega (arith, lt, j, e)))
    (λ h. let a = s.0 y h in absurd (omega (arith, lt, a, e)))
    (in_cases k r y c))
moment_left q k (x ∷ xs) r lt s = let h = moment_left q k xs r lt s.1 in grind arith

pub moment_right : (q : ℕ) (k : Listing) (l r : List Listing) → k.id < q → IsRising (l ++ k ∷ r) → moment_of q (l ++ k ∷ r) ≡ moment_of q r
moment_right q k [] r lt s = grind arith
moment_right q k (x ∷ xs) r lt s =
    let b : x.id < k.id = s.0 k (Contains-append_right xs (k ∷ r) k (in_here k r)) in
    let h = moment_right q k xs r lt s.1 in grind arith

-- a change of one ID changes the moment under it alone
pub moment_placed : (e : Listing) (xs : List Listing) (q : ℕ) → moment_of q (place e xs) ≡ (if e.id == q then Some e.at else moment_of q xs)
moment_placed e [] q = refl
moment_placed e (x ∷ xs) q = let h = moment_placed e xs q in grind arith

pub moment_without : (id : ℕ) (xs : List Listing) (q : ℕ) → IsRising xs → moment_of q (without id xs) ≡ (if id == q then None else moment_of q xs)
moment_without id [] q s = grind arith
moment_without id (x ∷ xs) q s =
    let h = moment_without id xs q s.1 in
    let gone : x.id ≡ q → moment_of q xs ≡ None = λ e. moment_absent q xs (λ y c i. let a = s.0 y c in absurd (omega (arith, a, e, i))) in
    grind arith

-- what is listed is the moment under its ID
listed_moment : (xs : List Listing) (y : Listing) → IsRising xs → Contains xs y → moment_of y.id xs ≡ Some y.at
listed_moment [] y s c = absurd (in_none y c)
listed_moment (x ∷ xs) y s c = ⊎_elim
    (λ (e : x ≡ y). subst (λ (z : Listing). moment_of z.id (x ∷ xs) ≡ Some z.at) e (first x))
    (λ h. let a = s.0 y h in let r = listed_moment xs y s.1 h in grind arith)
    (in_cases x xs y c)
  where
    first : (x : Listing) → (if x.id == x.id then Some x.at else moment_of x.id xs) ≡ Some x.at
    first x = grind arith

moment_listed : (xs : List Listing) (q b : ℕ) → moment_of q xs ≡ Some b → Contains xs (record { at = b; id = q })
moment_listed [] q b e = absurd (cc)
moment_listed (x ∷ xs) q b e = by_cases (moment_listed xs q b) (x.id == q) refl e
  where
    by_cases : (moment_of q xs ≡ Some b → Contains xs (record { at = b; id = q })) → (a : Bool) → (x.id == q) ≡ a → (if a then Some x.at else moment_of q xs) ≡ Some b → Contains (x ∷ xs) (record { at = b; id = q })
    by_cases rest true p e =
        let i = equal_true x.id q p in
        let m = same_Some x.at b e in
        subst (λ (z : ℕ × ℕ). Contains (x ∷ xs) (record { at = z.0; id = z.1 })) (λ k. (m k, i k)) (in_here x xs)
    by_cases rest false p e = in_rest x xs (record { at = b; id = q }) (rest e)

-- the least is listed, and no other moment comes before it
pub least_listed : (m : Listing) (xs : List Listing) → IsRising xs → IsLeast m xs → IsFirst (m.at, m.id) xs
least_listed m xs s least = record {
  listed = listed_moment xs m s least.there;
  least = λ q b e. least.least (record { at = b; id = q }) (moment_listed xs q b e);
}

pub sides_shorter : (l : List Listing) (k : Listing) (r : List Listing) → (length l < length (l ++ k ∷ r)) × (length r < length (l ++ k ∷ r))
sides_shorter l k r = omega (arith, length-append l (k ∷ r))

-- what a comparison tells
pub less_is : (a b : ℕ) → Less ≡ nat_cmp a b → a < b
less_is a b e = grind (arith, nat_tests)

pub greater_is : (a b : ℕ) → Greater ≡ nat_cmp a b → b < a
greater_is a b e = grind (arith, nat_tests)

pub equal_is : (a b : ℕ) → Equal ≡ nat_cmp a b → b ≡ a
equal_is a b e = grind (arith, nat_tests)
