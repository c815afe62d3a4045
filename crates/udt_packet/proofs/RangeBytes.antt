-- The bytes that spell ranges: how many there are, and how they are written one after the other.
use Rattle.std.proofs.Common.{◌≡◌, ℕ, suc, ◌+◌, ◌*◌, ◌%◌, ◌^◌, ◌≤◌, true, List, [], ◌∷◌, ◌++◌, length, take, drop, Some, None, refl, sym, ap, subst, ◌∙◌, arith, inl, inr}
use Rattle.std.specs.Prelude.{Option, ◌==◌}
use Rattle.std.proofs.lemmas.Bool.{cases_lt, eq-eqb}
use Rattle.std.proofs.lemmas.List.{length-take, length-append, append-nil, append_assoc, take_at, drop_at, take-append-drop, drop-drop}
use Rattle.udt_model.proofs.RangeLemmas.{length-range}
use Rattle.udt_model.specs.Wire.{WireRange, range_bytes, ranges_bytes, reach, words_of, before, ranges_from}
use Rattle.udt_packet.specs.Ranges.{those, ranges_in}
use Rattle.udt_packet.proofs.RangeWords.{ends, stands_alone, ends_well, ends_high, ends_far, none_left, open_left, begins_any}

-- ---- how many bytes spell them

-- the ranges are spelled by at most this many bytes
abbrev FitIn : ℕ → Option (List WireRange) → Type 0
FitIn count ranges = length (ranges_bytes (those ranges)) ≤ count

none-fit : (count : ℕ) (ranges : Option (List WireRange)) → ranges ≡ None → FitIn count ranges
unfolding ranges_bytes
none-fit count (Some ranges) none = cc
none-fit count None none = omega arith

before-fit : (size count : ℕ) (range : WireRange) (ranges : Option (List WireRange)) → length (range_bytes range) ≤ size → FitIn count ranges
    → FitIn (size + count) (before range ranges)
unfolding ranges_bytes
before-fit size count range (Some ranges) is fit = omega (arith, length-append (range_bytes range) (ranges_bytes ranges))
before-fit size count range None is fit = omega arith

wider : (few many : ℕ) (ranges : Option (List WireRange)) → few ≤ many → FitIn few ranges → FitIn many ranges
wider few many ranges le fit = omega arith

-- at most two words spell a range, and one word a number alone
two-words : (range : WireRange) → length (range_bytes range) ≤ 8
two-words range = elim (length-range range) [ inl four ↦ omega arith | inr eight ↦ omega arith ]

one-word : (number : ℕ) → length (range_bytes (ends number number)) ≤ 4
one-word number = let same : (number == number) ≡ true = eq-eqb number number refl in rw same (omega arith)

nothing-fits : (count : ℕ) → FitIn count (Some [])
unfolding ranges_bytes
nothing-fits count = omega arith

-- how many bytes have begun a range
abbrev begun_bytes : Option ℕ → ℕ
begun_bytes None = 0
begun_bytes (Some first) = 4

-- ranges are spelled by no more words than they were read from
from-fit : (begun : Option ℕ) (words : List ℕ) → FitIn (begun_bytes begun + 4 * length words) (ranges_from begun words)
from-fit None [] = subst (FitIn _) (sym none_left) (nothing-fits _)
from-fit (Some first) [] = none-fit _ _ (open_left first)
from-fit None (word ∷ words) =
    elim (cases_lt word (2 ^ 31)) [
      | inl low ↦
          let rest = before-fit 4 (0 + 4 * length words) (ends word word) (ranges_from None words) (one-word word) (from-fit None words) in
          wider (4 + (0 + 4 * length words)) (0 + 4 * suc (length words)) (ranges_from None (word ∷ words)) (omega arith)
          (subst (FitIn _) (sym (stands_alone word words low)) rest)
      | inr high ↦
          wider (4 + 4 * length words) (0 + 4 * suc (length words)) (ranges_from None (word ∷ words)) (omega arith)
          (subst (FitIn _) (sym (begins_any word words high)) (from-fit (Some (word % 2 ^ 31)) words))
    ]
from-fit (Some first) (word ∷ words) =
    elim (cases_lt word (2 ^ 31)) [
      | inl low ↦
          elim (cases_lt (reach first word) (2 ^ 30)) [
            | inl near ↦
                let rest = before-fit 8 (0 + 4 * length words) (ends first word) (ranges_from None words) (two-words (ends first word)) (from-fit None words) in
                wider (8 + (0 + 4 * length words)) (4 + 4 * suc (length words)) (ranges_from (Some first) (word ∷ words)) (omega arith)
                (subst (FitIn _) (sym (ends_well word words first low near)) rest)
            | inr far ↦ none-fit _ _ (ends_far word words first far)
          ]
      | inr high ↦ none-fit _ _ (ends_high word words first high)
    ]

words-fit : (bytes : List ℕ) → 4 * length (words_of bytes) ≤ length bytes
unfolding words_of
words-fit [] = omega arith
words-fit (a ∷ []) = omega arith
words-fit (a ∷ b ∷ []) = omega arith
words-fit (a ∷ b ∷ c ∷ []) = omega arith
words-fit (a ∷ b ∷ c ∷ d ∷ bytes) = omega (arith, words-fit bytes)

-- so they are spelled by no more bytes
pub ranges-fit : (bytes : List ℕ) → length (ranges_bytes (ranges_in bytes)) ≤ length bytes
ranges-fit bytes = omega (arith, from-fit None (words_of bytes), words-fit bytes)

-- ---- one after the other

-- the first range, and then the others
spell-first : (left rest : List WireRange) (range : WireRange) → left ≡ range ∷ rest → ranges_bytes left ≡ range_bytes range ++ ranges_bytes rest
unfolding ranges_bytes
spell-first left rest range is = rw is refl

spell-none : (left : List WireRange) → left ≡ [] → ranges_bytes left ≡ []
unfolding ranges_bytes
spell-none left is = rw is refl

-- what was counted grows by the first range
pub counts : (left rest all : List WireRange) (range : WireRange) (before size : ℕ) → left ≡ range ∷ rest → size ≡ length (range_bytes range)
    → before + length (ranges_bytes left) ≡ length (ranges_bytes all) → before + size + length (ranges_bytes rest) ≡ length (ranges_bytes all)
counts left rest all range before size is size_is whole =
    omega (arith, ap length (spell-first left rest range is), length-append (range_bytes range) (ranges_bytes rest))

pub counted : (left all : List WireRange) (before : ℕ) → left ≡ [] → before + length (ranges_bytes left) ≡ length (ranges_bytes all)
    → before ≡ length (ranges_bytes all)
counted left all before is whole = omega (arith, ap length (spell-none left is))

-- what was added grows by the first range
pub adds : (items new base : List ℕ) (left rest all : List WireRange) (range : WireRange) → left ≡ range ∷ rest → new ≡ items ++ range_bytes range
    → items ++ ranges_bytes left ≡ base ++ ranges_bytes all → new ++ ranges_bytes rest ≡ base ++ ranges_bytes all
adds items new base left rest all range is new_is whole =
    rw (new_is, append_assoc items (range_bytes range) (ranges_bytes rest), ← spell-first left rest range is) whole

pub has-room : (items base : List ℕ) (left rest all : List WireRange) (range : WireRange) (room : ℕ) → left ≡ range ∷ rest
    → items ++ ranges_bytes left ≡ base ++ ranges_bytes all → length (base ++ ranges_bytes all) ≤ room → length (items ++ range_bytes range) ≤ room
has-room items base left rest all range room is whole fits =
    omega (arith, ap length whole, length-append items (ranges_bytes left), ap length (spell-first left rest range is), length-append (range_bytes range) (ranges_bytes rest), length-append items (range_bytes range))

pub added : (items base : List ℕ) (left all : List WireRange) → left ≡ [] → items ++ ranges_bytes left ≡ base ++ ranges_bytes all
    → items ≡ base ++ ranges_bytes all
added items base left all is whole =
    sym (append-nil items) ∙ ap (λ (rest : List ℕ). items ++ rest) (sym (spell-none left is)) ∙ whole

-- the words that were written at a place, and those that are left
pub record IsPut (base into : List ℕ) (start place : ℕ) (left all : List WireRange) : Type 0 where
  pub within : place + length (ranges_bytes left) ≡ start + length (ranges_bytes all)
  pub written : take place into ++ ranges_bytes left ≡ take start base ++ ranges_bytes all
  pub following : drop place into ≡ drop place base

-- the first range is put after what was written
pub puts : (base into new : List ℕ) (start place end : ℕ) (left rest all : List WireRange) (range : WireRange) (words : List ℕ)
    → left ≡ range ∷ rest → words ≡ range_bytes range → place ≤ length into → end ≡ place + length words
    → new ≡ take place into ++ words ++ drop end into → IsPut base into start place left all → IsPut base new start end rest all
puts base into new start place end left rest all range words is words_are long end_is new_is put =
    let front : length (take place into ++ words) ≡ end = omega (arith, length-append (take place into) words, length-take place into) in
    let taken : take end new ≡ take place into ++ words =
    ap (take end) new_is ∙ take_at (take place into ++ words) (drop end into) end front in
    let dropped : drop end new ≡ drop end into =
    ap (drop end) new_is ∙ drop_at (take place into ++ words) (drop end into) end front in
    let more : (xs : List ℕ) → drop end xs ≡ drop (length words) (drop place xs) =
    λ xs. ap (λ (n : ℕ). drop n xs) end_is ∙ sym (drop-drop (length words) place xs) in
    record {
      within = omega (arith, put.within, ap length (spell-first left rest range is), length-append (range_bytes range) (ranges_bytes rest), ap length words_are);
      written =
          ap (λ (xs : List ℕ). xs ++ ranges_bytes rest) taken ∙ append_assoc (take place into) words (ranges_bytes rest)
          ∙ ap (λ (xs : List ℕ). take place into ++ (xs ++ ranges_bytes rest)) words_are
          ∙ ap (λ (xs : List ℕ). take place into ++ xs) (sym (spell-first left rest range is)) ∙ put.written;
      following = dropped ∙ more into ∙ ap (drop (length words)) put.following ∙ sym (more base);
    }

pub put-end : (base into : List ℕ) (start place : ℕ) (left all : List WireRange) → left ≡ [] → IsPut base into start place left all
    → place ≡ start + length (ranges_bytes all)
put-end base into start place left all is put = omega (arith, put.within, ap length (spell-none left is))

pub put-all : (base into : List ℕ) (start place : ℕ) (left all : List WireRange) → left ≡ [] → IsPut base into start place left all
    → into ≡ take start base ++ ranges_bytes all ++ drop place base
put-all base into start place left all is put =
    let front : take place into ≡ take start base ++ ranges_bytes all =
    sym (append-nil (take place into)) ∙ ap (λ (xs : List ℕ). take place into ++ xs) (sym (spell-none left is)) ∙ put.written in
    sym (take-append-drop place into) ∙ ap (λ (xs : List ℕ). xs ++ drop place into) front
    ∙ ap (λ (xs : List ℕ). take start base ++ ranges_bytes all ++ xs) put.following

-- and there is room for it
pub put-fits : (base into : List ℕ) (start place : ℕ) (left rest all : List WireRange) (range : WireRange) (words : List ℕ) → left ≡ range ∷ rest
    → words ≡ range_bytes range → start + length (ranges_bytes all) ≤ length into → IsPut base into start place left all → place + length words ≤ length into
put-fits base into start place left rest all range words is words_are fits put =
    omega (arith, put.within, ap length (spell-first left rest range is), length-append (range_bytes range) (ranges_bytes rest), ap length words_are)
