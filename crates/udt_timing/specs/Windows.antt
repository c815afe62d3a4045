-- What the median of a window is, and where the rates lie that a window tells.
use Rattle.std.specs.Prelude.{◌≡◌, ℕ, ◌*◌, ◌<◌, ◌≤◌, nat_le, nat_lt, List, [], ◌∷◌, ◌++◌, drop, length, count_by}
use Rattle.std.specs.List.{All}
use Rattle.udt_model.specs.Timing.{median, near_median, in_a_second}
use Rattle.udt_model.specs.declared.limits.TheConstants.{SAMPLE_WINDOW}

-- a window with room keeps all that it had, and a full one all but the oldest
pub record KeepsNewest {X : Type 0} (most : ℕ) (old : List X) (x : X) (new : List X) : Type 0 where
  pub room : length old < most → new ≡ old ++ x ∷ []
  pub full : length old ≡ most → new ≡ drop 1 old ++ x ∷ []

-- at least nine of the samples are at most the middle one, and at most eight are below it
pub record IsNinthSmallest (samples : List ℕ) (middle : ℕ) : Type 0 where
  pub nine : 9 ≤ count_by (λ x. nat_le x middle) samples
  pub eight : count_by (λ x. nat_lt x middle) samples ≤ 8

-- of a full window the median is the ninth smallest
abbrev pub MedianIsNinth : Type 0
MedianIsNinth = (samples : List ℕ) → length samples ≡ SAMPLE_WINDOW → IsNinthSmallest samples (median samples)

-- no two numbers are the ninth smallest
abbrev pub NinthIsOne : Type 0
NinthIsOne =
    (samples : List ℕ) (one other : ℕ)
    → IsNinthSmallest samples one → IsNinthSmallest samples other → one ≡ other

-- the capacity is one packet in the time of the ninth smallest sample
abbrev pub IsOneInNinth : List ℕ → ℕ → Type 0
IsOneInNinth samples capacity =
    (middle : ℕ) → IsNinthSmallest samples middle → capacity ≡ in_a_second 1 middle

-- the window is full and keeps more than half of its samples, so it tells a speed
pub record TellsSpeed (samples : List ℕ) : Type 0 where
  pub full : length samples ≡ SAMPLE_WINDOW
  pub most : 9 ≤ length (near_median samples)

-- where the kept samples lie between two times, the speed lies between the rates that these tell
abbrev pub IsBetweenRates : List ℕ → ℕ → Type 0
IsBetweenRates samples speed =
    (least most : ℕ) → 0 < least → All (λ v. (least ≤ v) × (v ≤ most)) (near_median samples)
    → (in_a_second 1 most ≤ speed) × (speed ≤ in_a_second 1 least)

-- and the kept samples are within a factor of eight of the median
abbrev pub KeptAreNear : Type 0
KeptAreNear =
    (samples : List ℕ)
    → All (λ v. (median samples ≤ 8 * v) × (v ≤ 8 * median samples)) (near_median samples)
