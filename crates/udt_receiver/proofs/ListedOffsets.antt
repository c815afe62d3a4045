-- Where the missing offsets of a loss list lie.
use Rattle.std.proofs.Common.{◌≡◌, ℕ, ◌+◌, ◌<◌, ◌≤◌, true, false, eqb, List, [], ◌∷◌, refl, arith}
use Rattle.std.proofs.lemmas.Bool.{eq-eqb, ne_eqb, or_left, or_right, or_from}
use Rattle.udt_model.specs.Losses.{Missing, is_missing}
use Rattle.udt_model.specs.ReceiveReports.{least_missing}
use Rattle.udt_ranges.specs.Offsets.{Rising}
use Rattle.udt_rcv_loss.specs.Absent.{offsets_in, AllBelow, first_or}

pub all_below : (top : ℕ) (ms : List Missing) → ((n : ℕ) → is_missing n ms ≡ true → n < top) → AllBelow top ms
unfolding AllBelow
all_below top [] h = tt
all_below top (m ∷ ms) h = (h m.offset (or_left _ _ (eq-eqb m.offset m.offset refl)), all_below top ms (λ n there. h n (or_right (eqb m.offset n) _ there)))

pub first_from : (base top : ℕ) (ms : List Missing) → base ≤ top → ((n : ℕ) → is_missing n ms ≡ true → base ≤ n) → base ≤ first_or top ms
first_from base top [] le h = le
first_from base top (m ∷ ms) le h = h m.offset (or_left _ _ (eq-eqb m.offset m.offset refl))

rising_above : (low high n : ℕ) (ms : List Missing) → Rising low high (offsets_in ms) → n < low → is_missing n ms ≡ false
unfolding Rising
rising_above low high n [] h less = refl
rising_above low high n (m ∷ ms) h less =
    or_from _ _ (ne_eqb m.offset n (λ same. omega (arith, h.0, same, less))) (rising_above (m.offset + 1) high n ms h.2 (omega (arith, h.0, less)))

-- nothing below it is missing
pub below_least : (top high n : ℕ) (ms : List Missing) → Rising (first_or 0 ms) high (offsets_in ms) → n < least_missing top ms → is_missing n ms ≡ false
below_least top high n [] h less = refl
below_least top high n (m ∷ ms) h less = rising_above m.offset high n (m ∷ ms) h less
