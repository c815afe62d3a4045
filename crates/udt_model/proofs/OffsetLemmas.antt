-- Rising offsets between two bounds, and what lists of lost packets make of them.
use Rattle.std.proofs.Common.{◌≡◌, ℕ, zero, suc, ◌+◌, ◌-◌, ◌<◌, ◌≤◌, Bool, true, false, ◌||◌, List, [], ◌∷◌, ◌++◌, drop, refl, sym, subst, arith}
use Rattle.std.specs.Prelude.{nat_lt, nat_le, if◌then◌else◌}
use Rattle.std.specs.List.{filter, range_with_len}
use Rattle.std.proofs.lemmas.Bool.{leb-true, leb-false, ltb-true}
use Rattle.std.proofs.lemmas.Bool.Decides.{nat_tests}
use Rattle.std.proofs.lemmas.List.{append-nil}
use Rattle.udt_model.specs.Losses.{offsets_between, with_range, from_offset, without_range}

-- the offsets rise, none is below the one bound, and all are below the other
abbrev pub AreWithin : ℕ → ℕ → List ℕ → Type 0
AreWithin from to [] = Unit {0}
AreWithin from to (offset ∷ others) = (from ≤ offset) × (offset < to) × AreWithin (offset + 1) to others

-- wider bounds hold too
pub AreWithin-wider : (from to sooner later : ℕ) (offsets : List ℕ) → sooner ≤ from → to ≤ later → AreWithin from to offsets
    → AreWithin sooner later offsets
AreWithin-wider from to sooner later [] before after within = tt
AreWithin-wider from to sooner later (offset ∷ others) before after within =
    (omega arith, omega arith, AreWithin-wider (offset + 1) to (offset + 1) later others (omega arith) after within.2)

-- without the least they are within
pub AreWithin-drop : (from to : ℕ) (offsets : List ℕ) → AreWithin from to offsets → AreWithin from to (drop 1 offsets)
AreWithin-drop from to [] within = tt
AreWithin-drop from to (offset ∷ others) within =
    AreWithin-wider (offset + 1) to from to others (omega arith) (omega arith) within.2

-- so are those that follow one another
pub AreWithin-range : (from count to : ℕ) → from + count ≤ to → AreWithin from to (range_with_len from count)
AreWithin-range from zero to fits = tt
AreWithin-range from (suc count) to fits = (omega arith, omega arith, AreWithin-range (from + 1) count to (omega arith))

-- those from an offset on
from_step : (offset first from to : ℕ) (others : List ℕ) → first < to → AreWithin (first + 1) to (filter (λ n. nat_le offset n) others)
    → ((offset ≤ first) → from ≤ first) → ((first < offset) → AreWithin from to (filter (λ n. nat_le offset n) others))
    → AreWithin from to (filter (λ n. nat_le offset n) (first ∷ others))
from_step offset first from to others less rest here past =
    elim (nat_le offset first) as (λ test. nat_le offset first ≡ test
    → AreWithin from to (if test then first ∷ filter (λ n. nat_le offset n) others else filter (λ n. nat_le offset n) others)) [
      | true ↦ λ is. (here (leb-true offset first is), less, rest)
      | false ↦ λ is. past (leb-false offset first is)
    ] refl

kept_within : (offset from to : ℕ) (offsets : List ℕ) → AreWithin from to offsets → AreWithin from to (filter (λ n. nat_le offset n) offsets)
kept_within offset from to [] within = tt
kept_within offset from to (first ∷ others) within =
    let rest = kept_within offset (first + 1) to others within.2 in
    from_step offset first from to others within.1 rest (λ below. within.0)
    (λ past. AreWithin-wider (first + 1) to from to _ (omega arith) (omega arith) rest)

-- what is kept from an offset on lies from there on
pub from_offset-within : (offset from to : ℕ) (offsets : List ℕ) → AreWithin from to offsets → AreWithin offset to (from_offset offset offsets)
unfolding from_offset
from_offset-within offset from to [] within = tt
from_offset-within offset from to (first ∷ others) within =
    from_step offset first offset to others within.1 (kept_within offset (first + 1) to others within.2) (λ below. below)
    (λ past. from_offset-within offset (first + 1) to others within.2)

-- none of these is below their bound, and none above the other
none_below : (bound from to : ℕ) (offsets : List ℕ) → bound ≤ from → AreWithin from to offsets → filter (λ n. nat_lt n bound) offsets ≡ []
none_below bound from to [] low within = refl
none_below bound from to (first ∷ others) low within =
    let test : nat_lt first bound ≡ false = grind (arith, nat_tests) in
    rw test (none_below bound (first + 1) to others (omega arith) within.2)

none_above : (bound from to : ℕ) (offsets : List ℕ) → to ≤ bound + 1 → AreWithin from to offsets → filter (λ n. nat_lt bound n) offsets ≡ []
none_above bound from to [] high within = refl
none_above bound from to (first ∷ others) high within =
    let test : nat_lt bound first ≡ false = grind (arith, nat_tests) in
    rw test (none_above bound (first + 1) to others high within.2)

-- so a range that covers them all is what is left of them with it
pub with_range-covers : (from last : ℕ) (offsets : List ℕ) → AreWithin from (last + 1) offsets → with_range from last offsets ≡ offsets_between from last
unfolding with_range
with_range-covers from last offsets within =
    rw (none_below from from (last + 1) offsets (omega arith) within, none_above last from (last + 1) offsets (omega arith) within) (append-nil (offsets_between from last))

-- and lies where they lay
pub with_range-within : (from last : ℕ) (offsets : List ℕ) → from ≤ last → AreWithin from (last + 1) offsets
    → AreWithin from (last + 1) (with_range from last offsets)
with_range-within from last offsets some within =
    subst (AreWithin from (last + 1)) (sym (with_range-covers from last offsets within))
    (AreWithin-range from (last + 1 - from) (last + 1) (omega arith))

-- ---- a range among others

-- those that follow on lie within both bounds together
pub AreWithin-append : (from middle to : ℕ) (offsets more : List ℕ) → from ≤ middle → middle ≤ to → AreWithin from middle offsets
    → AreWithin middle to more → AreWithin from to (offsets ++ more)
AreWithin-append from middle to [] more low high front rest = AreWithin-wider middle to from to more low (omega arith) rest
AreWithin-append from middle to (offset ∷ others) more low high front rest =
    (front.0, omega (arith, front.1), AreWithin-append (offset + 1) middle to others more (omega (arith, front.1)) high front.2 rest)

-- those that meet a test lie where all do
filter-within : (test : ℕ → Bool) (from to : ℕ) (offsets : List ℕ) → AreWithin from to offsets → AreWithin from to (filter test offsets)
filter-within test from to [] within = tt
filter-within test from to (offset ∷ others) within =
    let rest = filter-within test (offset + 1) to others within.2 in
    elim (test offset) as (λ meets. AreWithin from to (if meets then offset ∷ filter test others else filter test others)) [
      | true ↦ (within.0, within.1, rest)
      | false ↦ AreWithin-wider (offset + 1) to from to _ (omega (arith, within.0)) (omega arith) rest
    ]

-- so do those outside of a range
pub without_range-within : (first last from to : ℕ) (offsets : List ℕ) → AreWithin from to offsets
    → AreWithin from to (without_range first last offsets)
unfolding without_range
without_range-within first last from to offsets within = filter-within (λ n. nat_lt n first || nat_lt last n) from to offsets within

below-within : (bound from to : ℕ) (offsets : List ℕ) → AreWithin from to offsets → AreWithin from bound (filter (λ n. nat_lt n bound) offsets)
below-within bound from to [] within = tt
below-within bound from to (offset ∷ others) within =
    let rest = below-within bound (offset + 1) to others within.2 in
    elim (nat_lt offset bound) as (λ below. nat_lt offset bound ≡ below
    → AreWithin from bound (if below then offset ∷ filter (λ n. nat_lt n bound) others else filter (λ n. nat_lt n bound) others)) [
      | true ↦ λ is. (within.0, ltb-true offset bound is, rest)
      | false ↦ λ is. AreWithin-wider (offset + 1) bound from bound _ (omega (arith, within.0)) (omega arith) rest
    ] refl

above-within : (bound from to : ℕ) (offsets : List ℕ) → AreWithin from to offsets → AreWithin (bound + 1) to (filter (λ n. nat_lt bound n) offsets)
above-within bound from to [] within = tt
above-within bound from to (offset ∷ others) within =
    elim (nat_lt bound offset) as (λ above. nat_lt bound offset ≡ above
    → AreWithin (bound + 1) to (if above then offset ∷ filter (λ n. nat_lt bound n) others else filter (λ n. nat_lt bound n) others)) [
      | true ↦ λ is. (omega (arith, ltb-true bound offset is), within.1, filter-within (λ n. nat_lt bound n) (offset + 1) to others within.2)
      | false ↦ λ is. above-within bound (offset + 1) to others within.2
    ] refl

-- the list with a range that lies within lies within
pub with_range-among : (from to first last : ℕ) (offsets : List ℕ) → from ≤ first → first ≤ last → last < to → AreWithin from to offsets
    → AreWithin from to (with_range first last offsets)
unfolding with_range
with_range-among from to first last offsets low some high within =
    let range = AreWithin-range first (last + 1 - first) (last + 1) (omega arith) in
    let front = AreWithin-append from first (last + 1) _ _ low (omega arith) (below-within first from to offsets within) range in
    AreWithin-append from (last + 1) to _ _ (omega arith) (omega arith) front (above-within last from to offsets within)
