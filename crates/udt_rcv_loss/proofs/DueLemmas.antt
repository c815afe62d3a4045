-- How the ranges of a report lie, and how many words they take.
use Rattle.std.proofs.Common.{◌≡◌, ℕ, ◌+◌, ◌-◌, ◌<◌, ◌≤◌, Bool, true, false, cond, eqb, leb, ◌||◌, ◌&&◌, List, [], ◌∷◌, filter, refl, sym, ap, ◌∙◌, arith, inl, inr}
use Rattle.std.proofs.lemmas.Bool.{cases_lt, cases_eq, cases_Bool, le-leb, lt-leb, eq-eqb, ne_eqb, false≢true, or_right}
use Rattle.udt_model.specs.Losses.{Missing, LostRange, ranges_of, before_ranges, due_ranges, fitting_ranges, report, words_of_range, is_within, is_due, is_missing}
use Rattle.udt_ranges.specs.Offsets.{Rising}
use Rattle.udt_rcv_loss.specs.Absent.{offsets_in}
use Rattle.udt_rcv_loss.specs.Reports.{words_of, RangesRise, AreListed}
use Rattle.udt_rcv_loss.proofs.ReportLemmas.{stands_in, ranges_within}
use Rattle.udt_rcv_loss.proofs.RunLemmas.{due_in, Rising-some}

-- ranges that fit take no more words than there are
pub words_of-fitting : (words : ℕ) (rs : List LostRange) → words_of (fitting_ranges words rs) ≤ words
unfolding words_of fitting_ranges
words_of-fitting words [] = omega arith
words_of-fitting words (r ∷ rs) =
    elim (cases_lt words (words_of_range r)) [
      | inl over ↦ rw (lt-leb (words_of_range r) words over) (omega arith)
      | inr fits ↦ rw (le-leb (words_of_range r) words fits) (omega (arith, fits, words_of-fitting (words - words_of_range r) rs))
    ]

-- they are the first of all
RangesRise-fitting : (words low : ℕ) (rs : List LostRange) → RangesRise low rs → RangesRise low (fitting_ranges words rs)
unfolding RangesRise fitting_ranges
RangesRise-fitting words low [] h = tt
RangesRise-fitting words low (r ∷ rs) h =
    elim (leb (words_of_range r) words) as (λ b. RangesRise low (cond b (r ∷ fitting_ranges (words - words_of_range r) rs) [])) [
      | true ↦ (h.0, h.1, RangesRise-fitting (words - words_of_range r) (r.last + 1) rs h.2)
      | false ↦ tt
    ]

or_of : (a b c : Bool) → (b ≡ true → c ≡ true) → (a || b) ≡ true → (a || c) ≡ true
or_of true b c h on = refl
or_of false b c h on = h on

fitting_within : (words n : ℕ) (rs : List LostRange) → is_within (fitting_ranges words rs) n ≡ true → is_within rs n ≡ true
unfolding fitting_ranges
fitting_within words n [] on = on
fitting_within words n (r ∷ rs) on =
    (elim (leb (words_of_range r) words) as (λ b. is_within (cond b (r ∷ fitting_ranges (words - words_of_range r) rs) []) n ≡ true → is_within (r ∷ rs) n ≡ true) [
      | true ↦ or_of (leb r.first n && leb n r.last) (is_within (fitting_ranges (words - words_of_range r) rs) n) (is_within rs n) (fitting_within (words - words_of_range r) n rs)
      | false ↦ λ none. absurd (false≢true none)
    ]) on

-- the ranges of rising offsets rise
before_rise : (x low : ℕ) (rs : List LostRange) → low ≤ x → RangesRise (x + 1) rs → RangesRise low (before_ranges x rs)
unfolding RangesRise
before_rise x low [] le h = (le, omega arith, tt)
before_rise x low (r ∷ rs) le h =
    elim (cases_eq r.first (x + 1)) [
      | inl next ↦ rw (eq-eqb r.first (x + 1) next) (le, omega (arith, h.1), h.2)
      | inr apart ↦ rw (ne_eqb r.first (x + 1) apart) (le, omega arith, h)
    ]

ranges_rise : (low high : ℕ) (xs : List ℕ) → Rising low high xs → RangesRise low (ranges_of xs)
unfolding ranges_of Rising
ranges_rise low high [] h = unfold RangesRise in tt
ranges_rise low high (x ∷ xs) h = before_rise x low (ranges_of xs) h.0 (ranges_rise (x + 1) high xs h.2)

-- what is due is missing
due_missing : (now rtt n : ℕ) (ms : List Missing) → stands_in n (due_in now rtt ms) ≡ true → is_missing n ms ≡ true
unfolding stands_in
due_missing now rtt n [] on = on
due_missing now rtt n (m ∷ ms) on =
    (elim (is_due now rtt m) as (λ b. stands_in n (offsets_in (cond b (m ∷ filter (is_due now rtt) ms) (filter (is_due now rtt) ms))) ≡ true → is_missing n (m ∷ ms) ≡ true) [
      | true ↦ or_of (eqb m.offset n) (stands_in n (due_in now rtt ms)) (is_missing n ms) (due_missing now rtt n ms)
      | false ↦ λ later. or_right (eqb m.offset n) (is_missing n ms) (due_missing now rtt n ms later)
    ]) on

module _ (now rtt words low high : ℕ) (ms : List Missing) (rising : Rising low high (offsets_in ms)) where
  pub report_fits : words_of (report now rtt words ms) ≤ words
  unfolding report
  report_fits = words_of-fitting words (due_ranges now rtt ms)

  pub report_rises : RangesRise low (report now rtt words ms)
  unfolding report
  report_rises = RangesRise-fitting words low (due_ranges now rtt ms) (ranges_rise low high (due_in now rtt ms) (Rising-some (is_due now rtt) low high ms rising))

  pub report_listed : AreListed (report now rtt words ms) ms
  unfolding report
  report_listed = λ n on. due_missing now rtt n ms (sym (ranges_within n (due_in now rtt ms)).0 ∙ fitting_within words n (due_ranges now rtt ms) on)

-- ranges that rise from an offset rise from a lower one
pub RangesRise-lower : (low lower : ℕ) (rs : List LostRange) → lower ≤ low → RangesRise low rs → RangesRise lower rs
unfolding RangesRise
RangesRise-lower low lower [] le h = tt
RangesRise-lower low lower (r ∷ rs) le h = (omega arith, h.1, h.2)
