-- Round trips, windows of samples and the history of ACKs.
use Rattle.std.specs.Prelude.{ℕ, ◌+◌, ◌-◌, ◌*◌, ◌/◌, ◌==◌, ◌&&◌, ◌||◌, min, max, nat_lt, nat_le, if◌then◌else◌, Bool, List, [], ◌∷◌, ◌++◌, length, drop, filter, sum, slice_index, Option, None}
use Rattle.std.specs.List.{last_or, before_last, after_last}
use Rattle.udt_model.specs.declared.limits.TheConstants.{SYN, FIRST_RTT, FIRST_RTT_VAR, GREATEST_RTT, SAMPLE_WINDOW, ACK_HISTORY}
use Rattle.udt_model.specs.declared.sockets.SentAck.{SentAck}

-- ---- round trips, in microseconds

-- the smoothed round-trip time of a path, and how far samples lie off it
pub record RoundTrip : Type 0 where
  pub rtt : ℕ
  pub var : ℕ

-- what is assumed before the first sample
abbrev pub unmeasured : RoundTrip
unmeasured = record { rtt = FIRST_RTT; var = FIRST_RTT_VAR }

-- how far two times lie apart
abbrev pub gap : ℕ → ℕ → ℕ
gap a b = max a b - min a b

-- seven eighths of what was known, and an eighth of the sample
abbrev pub smoothed : ℕ → ℕ → ℕ
smoothed known sample = (7 * known + sample) / 8

-- three quarters of what was known, and a quarter of how far the sample lies off the old time
abbrev pub smoothed_variance : ℕ → ℕ → ℕ → ℕ
smoothed_variance known rtt sample = (3 * known + gap rtt sample) / 4

-- the sample as it counts
abbrev pub clamped : ℕ → ℕ
clamped sample = min sample GREATEST_RTT

-- what is known once a sample was taken in
abbrev pub after_sample : RoundTrip → ℕ → RoundTrip
after_sample known sample = record {
  rtt = smoothed known.rtt (clamped sample);
  var = smoothed_variance known.var known.rtt (clamped sample);
}

-- the unit of the NAK and EXP intervals: four round trips, the variance and a SYN
abbrev pub period_of : RoundTrip → ℕ
period_of known = 4 * known.rtt + known.var + SYN

-- ---- lists that keep their newest entries

-- a further entry comes to the end, and where there are then more than `most` the first one leaves
abbrev pub pushed : {X : Type 0} → ℕ → List X → X → List X
pushed most xs x = drop (length (xs ++ x ∷ []) - most) (xs ++ x ∷ [])

-- ---- windows of samples, each the microseconds between two arrivals

-- a window keeps the newest samples
abbrev pub with_sample : List ℕ → ℕ → List ℕ
with_sample samples sample = pushed SAMPLE_WINDOW samples sample

-- a number put into a rising list, before the first that isn't less
unfoldable pub put_in_order : ℕ → List ℕ → List ℕ
put_in_order x [] = x ∷ []
put_in_order x (y ∷ ys) = if nat_le x y then x ∷ y ∷ ys else y ∷ put_in_order x ys

-- the numbers of a list in rising order
unfoldable pub in_order : List ℕ → List ℕ
in_order [] = []
in_order (x ∷ xs) = put_in_order x (in_order xs)

-- the ninth smallest sample
abbrev pub median : List ℕ → ℕ
median samples = slice_index (in_order samples) 8

-- a sample is kept where it is within a factor of eight of the median
abbrev pub is_near : ℕ → ℕ → Bool
is_near middle sample = nat_le middle (8 * sample) && nat_le sample (8 * middle)

-- the samples that are kept
abbrev pub near_median : List ℕ → List ℕ
near_median samples = filter (is_near (median samples)) samples

-- the microseconds of a second
abbrev pub second : ℕ
second = 1000000

-- how many come in a second, where `count` of them take `micros`
abbrev pub in_a_second : ℕ → ℕ → ℕ
in_a_second count micros = if micros == 0 then 0 else count * second / micros

-- the window isn't full yet
abbrev pub is_short : List ℕ → Bool
is_short samples = nat_lt (length samples) SAMPLE_WINDOW

-- the arrival speed in packets a second: that of the kept samples, where the window is full and
-- more than half of its samples are kept
abbrev pub speed_of : List ℕ → ℕ
speed_of samples =
    let kept = near_median samples in
    if is_short samples || nat_le (length kept) 8
    then 0
    else in_a_second (length kept) (sum kept)

-- the capacity of the link in packets a second: one packet in the median time, where the window
-- is full
abbrev pub capacity_of : List ℕ → ℕ
capacity_of samples = if is_short samples then 0 else in_a_second 1 (median samples)

-- ---- the history of ACKs

-- the history keeps the newest
abbrev pub with_note : List SentAck → SentAck → List SentAck
with_note history note = pushed ACK_HISTORY history note

-- the ACK has this number
abbrev pub is_under : ℕ → SentAck → Bool
is_under number note = note.number == number

-- of several ACKs with one number the last counts
abbrev pub last_under : ℕ → List SentAck → Option SentAck
last_under number history = last_or None (filter (is_under number) history)

-- the history once that one was taken out: what stood before it and what stood after it, or all
-- where there is none
abbrev pub without_last_under : ℕ → List SentAck → List SentAck
without_last_under number history =
    before_last (is_under number) history ++ after_last (is_under number) history
