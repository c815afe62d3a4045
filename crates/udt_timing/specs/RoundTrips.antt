-- What the fields of a round-trip time stand for, and where smoothed numbers lie.
use Rattle.std.specs.Prelude.{ℕ, ◌≤◌, min, max}
use Rattle.udt_model.specs.Timing.{RoundTrip, gap, smoothed, smoothed_variance, after_sample}
use Rattle.udt_model.specs.declared.limits.TheConstants.{GREATEST_RTT}
use Rattle.udt_timing.specs.declared.round_trip.Rtt.{Rtt}

-- the round-trip time and its variance, as the protocol's state has them
abbrev pub round_trip_of : Rtt → RoundTrip
round_trip_of known = record { rtt = known.rtt; var = known.var }

-- the smoothed number lies between the old one and the sample
pub record IsBetween (old sample smoothed : ℕ) : Type 0 where
  pub no_less : min old sample ≤ smoothed
  pub no_more : smoothed ≤ max old sample

-- so it is with the time ..
abbrev pub TimeIsBetween : Type 0
TimeIsBetween = (known sample : ℕ) → IsBetween known sample (smoothed known sample)

-- .. and with the variance, whose sample is how far the time lay off the sample
abbrev pub VarianceIsBetween : Type 0
VarianceIsBetween =
    (known rtt sample : ℕ) → IsBetween known (gap rtt sample) (smoothed_variance known rtt sample)

-- both are at most a minute
pub record IsWithinAMinute (known : RoundTrip) : Type 0 where
  pub rtt : known.rtt ≤ GREATEST_RTT
  pub var : known.var ≤ GREATEST_RTT

-- and stay so, whatever the sample
abbrev pub StaysWithinAMinute : Type 0
StaysWithinAMinute =
    (known : RoundTrip) (sample : ℕ)
    → IsWithinAMinute known → IsWithinAMinute (after_sample known sample)
