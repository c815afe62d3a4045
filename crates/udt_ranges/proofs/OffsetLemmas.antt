-- The offsets of linked ranges, filtered, in order, and as ranges again.
use Rattle.std.proofs.Common.{◌≡◌, ◌≢◌, ℕ, zero, suc, ◌+◌, ◌-◌, ◌<◌, ◌≤◌, Bool, true, false, cond, ltb, leb, ◌||◌, List, [], ◌∷◌, ◌++◌, map, filter, drop, refl, sym, ap, subst, arith, inl, inr, Some}
use Rattle.std.specs.List.{range_with_len}
use Rattle.std.proofs.lemmas.List.{map-append}
use Rattle.std.proofs.lemmas.List.Elements.{filter_agree}
use Rattle.std.proofs.lemmas.Bool.{lt-ltb, le-ltb, le-leb, lt-leb, ne_eqb, eq-eqb, cases_lt, or_right}
use Rattle.udt_model.specs.Losses.{LostRange, offsets_between, ranges_of, before_ranges, from_offset, without_range}
use Rattle.udt_ranges.specs.declared.range.Range.{Range}
use Rattle.udt_ranges.specs.Ranges.{Item, Rises, IsFrom, items_of, items_of_range}
use Rattle.udt_ranges.specs.Cursors.{first_of}
use Rattle.udt_ranges.proofs.ItemLemmas.{item_of, IsFrom-Rises}
use Rattle.udt_ranges.specs.Offsets.{offsets_in, Rising, least}

pub Rising-lower : (low lower high : ℕ) (ns : List ℕ) → lower ≤ low → Rising low high ns → Rising lower high ns
unfolding Rising
Rising-lower low lower high [] le h = tt
Rising-lower low lower high (n ∷ ns) le h = (omega arith, h.1, h.2)

-- a list without its least offset
filter_above : (x low high : ℕ) (ns : List ℕ) → x < low → Rising low high ns → filter (λ n. ltb n x || ltb x n) ns ≡ ns
unfolding Rising
filter_above x low high [] below h = refl
filter_above x low high (n ∷ ns) below h =
    let e = lt-ltb x n (omega arith) in
    let f = le-ltb n x (omega arith) in
    rw (e, f) (ap (λ xs. n ∷ xs) (filter_above x (n + 1) high ns (omega arith) h.2))

pub without_least : (x low high : ℕ) (ns : List ℕ) → Some x ≡ least ns → Rising low high ns → without_range x x ns ≡ drop 1 ns
unfolding without_range Rising
without_least x low high [] is h = refl
without_least x low high (n ∷ ns) is h =
    let same : x ≡ n = cc in
    let e = le-ltb x n (omega arith) in
    let f = le-ltb n x (omega arith) in
    rw (e, f) (filter_above x (n + 1) high ns (omega arith) h.2)

without_is : (n k : ℕ) → 0 < n → (ltb k 0 || ltb (n - 1) k) ≡ leb n k
without_is n k some =
    elim (cases_lt k n) [
      | inl below ↦ rw (le-ltb k 0 (omega arith), le-ltb (n - 1) k (omega arith), lt-leb n k below) refl
      | inr above ↦ rw (le-ltb k 0 (omega arith), lt-ltb (n - 1) k (omega arith), le-leb n k above) refl
    ]

outside_all : (from to n : ℕ) → to < from → (ltb n from || ltb to n) ≡ true
outside_all from to n none =
    elim (cases_lt n from) [
      | inl below ↦ rw (lt-ltb n from below) refl
      | inr above ↦ rw (lt-ltb to n (omega arith)) (or_right (ltb n from) true refl)
    ]

-- dropping below an offset is taking out what lies before it
pub from_offset-without : (n : ℕ) (ns : List ℕ) → 0 < n → without_range 0 (n - 1) ns ≡ from_offset n ns
unfolding from_offset without_range
from_offset-without n ns some =
    filter_agree (λ k. ltb k 0 || ltb (n - 1) k) (λ k. leb n k) (λ k. without_is n k some) ns

pub from_offset-zero : (ns : List ℕ) → from_offset 0 ns ≡ ns
unfolding from_offset
from_offset-zero [] = refl
from_offset-zero (n ∷ ns) = rw (le-leb 0 n (omega arith)) (ap (λ xs. n ∷ xs) (from_offset-zero ns))

pub without_none : (from to : ℕ) (ns : List ℕ) → to < from → without_range from to ns ≡ ns
unfolding without_range
without_none from to [] none = refl
without_none from to (n ∷ ns) none =
    rw (outside_all from to n none) (ap (λ xs. n ∷ xs) (without_none from to ns none))

pub Rising-filter : (p : ℕ → Bool) (low high : ℕ) (ns : List ℕ) → Rising low high ns → Rising low high (filter p ns)
unfolding Rising
Rising-filter p low high [] h = tt
Rising-filter p low high (n ∷ ns) h =
    elim (p n) as (λ b. Rising low high (cond b (n ∷ filter p ns) (filter p ns))) [
      | true ↦ (h.0, h.1, Rising-filter p (n + 1) high ns h.2)
      | false ↦ Rising-lower (n + 1) low high (filter p ns) (omega arith) (Rising-filter p (n + 1) high ns h.2)
    ]

pub Rising-higher : (low high higher : ℕ) (ns : List ℕ) → high ≤ higher → Rising low high ns → Rising low higher ns
unfolding Rising
Rising-higher low high higher [] le h = tt
Rising-higher low high higher (n ∷ ns) le h = (h.0, omega arith, Rising-higher (n + 1) high higher ns le h.2)

-- what is left of a list above an offset rises from it
pub Rising-from_offset : (k low high : ℕ) (ns : List ℕ) → Rising low high ns → Rising k high (from_offset k ns)
unfolding Rising from_offset
Rising-from_offset k low high [] h = tt
Rising-from_offset k low high (n ∷ ns) h =
    elim (cases_lt n k) [
      | inl below ↦ rw (lt-leb k n below) (Rising-from_offset k (n + 1) high ns h.2)
      | inr above ↦ rw (le-leb k n above) (above, h.1, Rising-filter (λ m. leb k m) (n + 1) high ns h.2)
    ]

-- no range begins with this offset first
unfoldable pub Gap : ℕ → List LostRange → Type 0
Gap k [] = Unit {0}
Gap k (y ∷ ys) = y.first ≢ k

before_gap : (a : ℕ) (ys : List LostRange) → Gap (a + 1) ys → before_ranges a ys ≡ record { first = a; last = a } ∷ ys
unfolding Gap
before_gap a [] gap = refl
before_gap a (y ∷ ys) gap = rw (ne_eqb y.first (a + 1) gap) refl

-- consecutive offsets before others are one range
pub ranges_of-row : (a n : ℕ) (xs : List ℕ) (ys : List LostRange) → ranges_of xs ≡ ys → Gap (a + n + 1) ys → ranges_of (range_with_len a (suc n) ++ xs) ≡ record { first = a; last = a + n } ∷ ys
unfolding ranges_of
ranges_of-row a zero xs ys is gap =
    let e : a + 0 ≡ a = omega arith in
    rw (is, e) (before_gap a ys (rw e at gap))
ranges_of-row a (suc n) xs ys is gap =
    let e : a + suc n ≡ a + 1 + n = omega arith in
    let rest = ranges_of-row (a + 1) n xs ys is (rw e at gap) in
    rw (rest, eq-eqb (a + 1) (a + 1) refl, e) refl

-- dropping twice is dropping once
pub from_offset-twice : (n : ℕ) (ns : List ℕ) → from_offset n (from_offset n ns) ≡ from_offset n ns
unfolding from_offset
from_offset-twice n [] = refl
from_offset-twice n (k ∷ ns) =
    elim (cases_lt k n) [
      | inl below ↦ rw (lt-leb n k below) (from_offset-twice n ns)
      | inr above ↦ rw (le-leb n k above) (rw (le-leb n k above) (ap (λ xs. k ∷ xs) (from_offset-twice n ns)))
    ]

module _ {T : Type 0} where
  -- a test of the offset
  pub offsets_in-filter : (p : ℕ → Bool) (ms : List (Item T)) → offsets_in (filter (λ m. p m.offset) ms) ≡ filter p (offsets_in ms)
  offsets_in-filter p [] = refl
  offsets_in-filter p (m ∷ ms) =
      elim (p m.offset) as (λ b. offsets_in (cond b (m ∷ filter (λ k. p k.offset) ms) (filter (λ k. p k.offset) ms)) ≡ cond b (m.offset ∷ filter p (offsets_in ms)) (filter p (offsets_in ms))) [
        | true ↦ ap (λ xs. m.offset ∷ xs) (offsets_in-filter p ms)
        | false ↦ offsets_in-filter p ms
      ]

  pub offsets_in-append : (ms ns : List (Item T)) → offsets_in (ms ++ ns) ≡ offsets_in ms ++ offsets_in ns
  offsets_in-append ms ns = map-append (λ (m : Item T). m.offset) ms ns

  pub offsets_in-row : (r : Range T) (a n : ℕ) → offsets_in (map (item_of r) (range_with_len a n)) ≡ range_with_len a n
  offsets_in-row r a zero = refl
  offsets_in-row r a (suc n) = ap (λ xs. a ∷ xs) (offsets_in-row r (a + 1) n)

  pub offsets_in-range : (r : Range T) → offsets_in (items_of_range r) ≡ offsets_between r.first r.last
  offsets_in-range r = offsets_in-row r r.first (r.last + 1 - r.first)

  -- rising ranges have rising offsets
  Rising-row : (r : Range T) (low high a n : ℕ) (ms : List (Item T)) → low ≤ a → a + n ≤ high → Rising (a + n) high (offsets_in ms) → Rising low high (offsets_in (map (item_of r) (range_with_len a n) ++ ms))
  unfolding Rising
  Rising-row r low high a zero ms le within h = Rising-lower (a + 0) low high (offsets_in ms) (omega arith) h
  Rising-row r low high a (suc n) ms le within h =
      (le, omega arith, Rising-row r (a + 1) high (a + 1) n ms (omega arith) (omega arith) (subst (λ k. Rising k high (offsets_in ms)) (let e : a + suc n ≡ a + 1 + n = omega arith in e) h))

  pub Rising-items : (low high : ℕ) (rs : List (Range T)) → Rises low high rs → Rising low high (offsets_in (items_of rs))
  unfolding items_of Rises
  Rising-items low high [] h = unfold Rising in tt
  Rising-items low high (r ∷ rs) h =
      let e : r.first + (r.last + 1 - r.first) ≡ r.last + 1 = omega arith in
      Rising-row r low high r.first (r.last + 1 - r.first) (items_of rs) h.0 (omega arith) (rw e (Rising-items (r.last + 1) high rs h.3))

  -- the least offset begins the first range
  pub least-items : (low high : ℕ) (rs : List (Range T)) → Rises low high rs → first_of rs ≡ least (offsets_in (items_of rs))
  unfolding items_of Rises
  least-items low high [] h = refl
  least-items low high (r ∷ rs) h =
      let e : r.last + 1 - r.first ≡ suc (r.last - r.first) = omega arith in
      sym (ap (λ n. least (offsets_in (map (item_of r) (range_with_len r.first n) ++ items_of rs))) e)

  -- ranges whose offsets begin no lower than an offset
  pub IsFrom-offsets : (from low high top : ℕ) (rs : List (Range T)) → Rises low high rs → Rising from top (offsets_in (items_of rs)) → IsFrom from rs
  unfolding items_of Rises IsFrom Rising
  IsFrom-offsets from low high top [] h rising = tt
  IsFrom-offsets from low high top (r ∷ rs) h rising =
      let e : r.last + 1 - r.first ≡ suc (r.last - r.first) = omega arith in
      let first = subst (λ n. Rising from top (offsets_in (map (item_of r) (range_with_len r.first n) ++ items_of rs))) e rising in
      (first.0, IsFrom-Rises from (r.last + 1) high rs h.3 (omega (arith, first.0)))
