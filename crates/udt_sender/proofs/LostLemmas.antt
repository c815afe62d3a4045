-- Lost offsets: all rise, and lie where something is in flight.
use Rattle.std.proofs.Common.{◌≡◌, ℕ, zero, suc, ◌+◌, ◌-◌, ◌<◌, ◌≤◌, List, [], ◌∷◌, ◌++◌, length, drop, Some, append_assoc, refl, ap, arith, inl, inr}
use Rattle.std.specs.Prelude.{nat_lt, ◌||◌}
use Rattle.std.specs.List.{filter, range_with_len}
use Rattle.std.proofs.lemmas.Bool.{cases_lt, lt-ltb, le-ltb}
use Rattle.udt_model.specs.Losses.{with_range, without_range}
use Rattle.udt_model.specs.SendBlocks.{KeptBlock, SendBlocks, end_of, kept_at}
use Rattle.udt_ranges.specs.Offsets.{Rising, least}
use Rattle.udt_ranges.proofs.OffsetLemmas.{Rising-lower, Rising-higher, Rising-filter}
use Rattle.udt_sender.proofs.BlockLemmas.{kept_is}

-- the others rise without the first
pub Rising-drop : (low high : ℕ) (lost : List ℕ) → Rising low high lost → Rising low high (drop 1 lost)
unfolding Rising
Rising-drop low high [] rise = tt
Rising-drop low high (offset ∷ others) rise = Rising-lower (offset + 1) low high others (omega (arith, rise.0)) rise.2

-- two lists of which the second rises from where the first ends
Rising-append : (low middle high : ℕ) (xs ys : List ℕ) → low ≤ middle → middle ≤ high → Rising low middle xs → Rising middle high ys → Rising low high (xs ++ ys)
unfolding Rising
Rising-append low middle high [] ys first second xs_rise ys_rise = Rising-lower middle low high ys first ys_rise
Rising-append low middle high (x ∷ xs) ys first second xs_rise ys_rise =
    (xs_rise.0, omega (arith, xs_rise.1), Rising-append (x + 1) middle high xs ys (omega (arith, xs_rise.1)) second xs_rise.2 ys_rise)

-- those below an offset end there
Rising-below : (bound low high : ℕ) (lost : List ℕ) → Rising low high lost → Rising low bound (filter (λ n. nat_lt n bound) lost)
unfolding Rising
Rising-below bound low high [] rise = tt
Rising-below bound low high (n ∷ ns) rise =
    elim (cases_lt n bound) [
      | inl below ↦ rw (lt-ltb n bound below) (rise.0, below, Rising-below bound (n + 1) high ns rise.2)
      | inr above ↦ rw (le-ltb n bound above) (Rising-lower (n + 1) low bound _ (omega (arith, rise.0)) (Rising-below bound (n + 1) high ns rise.2))
    ]

-- those above an offset begin after it
Rising-above : (bound low high : ℕ) (lost : List ℕ) → Rising low high lost → Rising (bound + 1) high (filter (λ n. nat_lt bound n) lost)
unfolding Rising
Rising-above bound low high [] rise = tt
Rising-above bound low high (n ∷ ns) rise =
    elim (cases_lt bound n) [
      | inl above ↦
          rw (lt-ltb bound n above)
          (omega arith, rise.1, Rising-filter (λ m. nat_lt bound m) (n + 1) high ns rise.2)
      | inr below ↦ rw (le-ltb bound n below) (Rising-above bound (n + 1) high ns rise.2)
    ]

-- all offsets from one on rise
Rising-range : (from count high : ℕ) → from + count ≤ high → Rising from high (range_with_len from count)
unfolding Rising
Rising-range from zero high within = tt
Rising-range from (suc count) high within = (omega arith, omega arith, Rising-range (from + 1) count high (omega arith))

-- the list rises with a range within its bounds
pub Rising-with_range : (low high from to : ℕ) (lost : List ℕ) → low ≤ from → from ≤ to → to < high → Rising low high lost → Rising low high (with_range from to lost)
unfolding with_range
Rising-with_range low high from to lost first order last rise =
    let below = filter (λ n. nat_lt n from) lost in
    let above = filter (λ n. nat_lt to n) lost in
    let between = range_with_len from (to + 1 - from) in
    let upper : Rising from high (between ++ above) =
    Rising-append from (to + 1) high between above (omega arith) (omega arith) (Rising-range from (to + 1 - from) (to + 1) (omega arith)) (Rising-above to low high lost rise) in
    let whole : Rising low high (below ++ (between ++ above)) =
    Rising-append low from high below (between ++ above) first (omega arith) (Rising-below from low high lost rise) upper in
    rw (append_assoc below between above) whole

-- without a range it rises still, and the range may go on above it
pub Rising-without_range : (low high higher from to : ℕ) (lost : List ℕ) → high ≤ higher → Rising low high lost → Rising low higher (without_range from to lost)
unfolding without_range
Rising-without_range low high higher from to lost up rise =
    Rising-higher low high higher _ up (Rising-filter (λ n. nat_lt n from || nat_lt to n) low high lost rise)

-- where the least offset lies in the range, it may be taken out before
pub without_range-least : (from to offset : ℕ) (lost others : List ℕ) → lost ≡ offset ∷ others → from ≤ offset → offset ≤ to
    → without_range from to (drop 1 lost) ≡ without_range from to lost
unfolding without_range
without_range-least from to offset lost others is low high = rw (is, le-ltb offset from low, le-ltb to offset high) refl

-- ---- the least one

-- the first of the list, whose block is kept
pub record LostFirst (blocks : SendBlocks) (lost : List ℕ) (offset : ℕ) : Type 0 where
  pub others : List ℕ
  pub block : KeptBlock
  pub is : lost ≡ offset ∷ others
  pub found : kept_at blocks offset ≡ Some block

pub first_lost : (blocks : SendBlocks) (next : ℕ) (lost : List ℕ) (offset : ℕ) → Rising blocks.first next lost → next ≤ end_of blocks → Some offset ≡ least lost
    → LostFirst blocks lost offset
unfolding Rising
first_lost blocks next [] offset rise within is = cc
first_lost blocks next (first ∷ others) offset rise within is =
    let same : first ≡ offset = cc in
    let kept = kept_is blocks offset (omega (arith, rise.0, same)) (omega (arith, rise.1, within, same)) in
    record { others = others; block = kept.0; is = ap (λ (n : ℕ). n ∷ others) same; found = kept.1 }

-- there is one where the list isn't empty
pub some_least : (lost : List ℕ) → 0 < length lost → (offset : ℕ) × (Some offset ≡ least lost)
some_least [] some = absurd (omega (arith, some))
some_least (first ∷ others) some = (first, refl)
