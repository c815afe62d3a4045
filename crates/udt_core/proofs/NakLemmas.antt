-- The words of a NAK's ranges.
use Rattle.std.proofs.Common.{◌≡◌, ℕ, ◌+◌, ◌*◌, ◌≤◌, List, [], ◌∷◌, length, drop, map, Some, refl, ap, ◌∙◌, arith, inl, inr}
use Rattle.std.specs.Prelude.{slice_get}
use Rattle.std.proofs.lemmas.Bool.{cases_eq, eq-eqb, ne_eqb}
use Rattle.std.proofs.lemmas.List.{length-append, drop_more}
use Rattle.std.proofs.lemmas.Option.{slice_get_within, get_or_from_slice_get}
use Rattle.udt_model.proofs.RangeLemmas.{length-range}
use Rattle.udt_model.specs.Losses.{LostRange, words_of_range}
use Rattle.udt_model.specs.Numbers.{sequence_number}
use Rattle.udt_model.specs.Wire.{WireRange, range_bytes, ranges_bytes}
use Rattle.udt_rcv_loss.specs.Reports.{words_of}
use Rattle.udt_core.specs.Emitted.{numbers_from, numbers_bytes}

-- the range of a place, and then those after it
pub drop_first : {X Y : Type 0} (f : X → Y) (xs : List X) (i : ℕ) (x : X) → slice_get xs i ≡ Some x → map f (drop i xs) ≡ f x ∷ map f (drop (i + 1) xs)
drop_first f xs i x is =
    ap (map f) (drop_more xs i x (slice_get_within xs i x is) ∙ ap (λ (y : _). y ∷ drop (i + 1) xs) (get_or_from_slice_get xs i x x is))

-- one word spells a range whose ends are equal
one-word : (range : WireRange) → range.first ≡ range.last → length (range_bytes range) ≤ 4
one-word range same = rw (eq-eqb range.first range.last same) (omega arith)

two-words : (range : WireRange) → length (range_bytes range) ≤ 8
two-words range = elim (length-range range) [ inl four ↦ omega arith | inr eight ↦ omega arith ]

-- a range takes no more bytes than its words have
range-fits : (isn : ℕ) (range : LostRange) → length (range_bytes (numbers_from isn range)) ≤ 4 * words_of_range range
range-fits isn range =
    elim (cases_eq range.first range.last) [
      | inl same ↦
          let words : words_of_range range ≡ 1 = rw (eq-eqb range.first range.last same) refl in
          omega (arith, words, one-word (numbers_from isn range) (ap (sequence_number isn) same))
      | inr differs ↦
          let words : words_of_range range ≡ 2 = rw (ne_eqb range.first range.last differs) refl in
          omega (arith, words, two-words (numbers_from isn range))
    ]

-- and so do ranges
pub ranges-fit : (isn : ℕ) (ranges : List LostRange) → length (numbers_bytes isn ranges) ≤ 4 * words_of ranges
unfolding ranges_bytes words_of
ranges-fit isn [] = omega arith
ranges-fit isn (range ∷ ranges) =
    omega (arith, range-fits isn range, ranges-fit isn ranges, length-append (range_bytes (numbers_from isn range)) (numbers_bytes isn ranges))
