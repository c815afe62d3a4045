-- What the first twelve bytes say of a frame.
use Rattle.std.proofs.Common.{◌≡◌, ℕ, suc, zero, ◌+◌, ◌-◌, ◌^◌, ◌<◌, ◌≤◌, List, [], ◌++◌, length, take, drop, refl, sym, ◌∙◌, ap, subst, inl, inr, arith, append_assoc, length-append, length-take, length-drop}
use Rattle.std.specs.Int.{w64, to_be_bytes, from_be_bytes}
use Rattle.std.proofs.lemmas.Bool.{cases_lt}
use Rattle.std.proofs.lemmas.List.{take_at, drop_at, take_all, drop_all, nil_from_length, append-nil, take-append-drop}
use Rattle.std.proofs.lemmas.Nat.{from_be_bytes-to_be_bytes_8}
use Rattle.udt_model.specs.Emissions.{IsPrefix}
use Rattle.udt_framing.specs.Framing.{mark, header_of, framed, framing_of, BeginsFrame, IsFrame, file_of}
use Rattle.udt_framing.proofs.Parts.{take-append, IsPrefix-taken, IsPrefix-shorter}

-- a header has twelve bytes
pub length-header_of : (len : ℕ) → length (header_of len) ≡ 12
unfolding header_of
length-header_of len = refl

-- no two lengths have the same
pub header_of-same : (a b : ℕ) → a < 2 ^ 64 → b < 2 ^ 64 → header_of a ≡ header_of b → a ≡ b
unfolding header_of
header_of-same a b fits_a fits_b same =
    sym (from_be_bytes-to_be_bytes_8 a fits_a)
    ∙ ap (λ xs. from_be_bytes w64 (drop 4 xs)) same
    ∙ from_be_bytes-to_be_bytes_8 b fits_b

-- bytes begin with a header exactly where their first twelve are it
pub taken-from_header : (len : ℕ) (xs : List ℕ) → IsPrefix (header_of len) xs → take 12 xs ≡ header_of len
taken-from_header len xs (rest, is) = ap (take 12) is ∙ take_at (header_of len) rest 12 (length-header_of len)

pub header-from_taken : (len : ℕ) (xs : List ℕ) → take 12 xs ≡ header_of len → IsPrefix (header_of len) xs
header-from_taken len xs is = (drop 12 xs, sym (take-append-drop 12 xs) ∙ ap (λ h. h ++ drop 12 xs) is)

-- the first twelve bytes of what begins a frame begin its header
pub taken-begins : (len : ℕ) (file xs : List ℕ) → IsPrefix xs (framed len file) → IsPrefix (take 12 xs) (header_of len)
taken-begins len file xs (rest, is) =
    let cut : take 12 (framed len file) ≡ header_of len = take_at (header_of len) (take len file) 12 (length-header_of len) in
    (take (12 - length xs) rest, sym cut ∙ ap (take 12) is ∙ take-append 12 xs rest)

-- where a header begins with the first twelve bytes, either it ends there or nothing follows them
pub one_ends : (len : ℕ) (xs rest : List ℕ) → header_of len ≡ take 12 xs ++ rest → rest ++ drop 12 xs ≡ drop 12 xs ++ rest
one_ends len xs rest is =
    let sizes : 12 ≡ length (take 12 xs) + length rest = sym (length-header_of len) ∙ ap length is ∙ length-append (take 12 xs) rest in
    elim (cases_lt 12 (length xs)) [
      | inl longer ↦
          let none : rest ≡ [] = nil_from_length rest (omega (arith, sizes, length-take 12 xs)) in
          rw none (sym (append-nil (drop 12 xs)))
      | inr shorter ↦
          let none : drop 12 xs ≡ [] = drop_all 12 xs shorter in
          rw none (append-nil rest)
    ]

-- bytes that agree with a header, and no more of a file than its length, begin a frame
pub begins-from_count : (len : ℕ) (xs : List ℕ) → len < 2 ^ 64 → IsPrefix (take 12 xs) (header_of len) → length (file_of xs) ≤ len → BeginsFrame xs
begins-from_count len xs fits (rest, is) few = (
  len,
  drop 12 xs,
  fits,
  (
    rest,
    ap (λ ys. header_of len ++ ys) (take_all len (drop 12 xs) few)
        ∙ ap (λ h. h ++ drop 12 xs) is
        ∙ append_assoc (take 12 xs) rest (drop 12 xs)
        ∙ ap (λ ys. take 12 xs ++ ys) (one_ends len xs rest is)
        ∙ sym (append_assoc (take 12 xs) (drop 12 xs) rest)
        ∙ ap (λ ys. ys ++ rest) (take-append-drop 12 xs),
  ),
)

-- with more bytes than the length they begin none
pub none-from_count : (len : ℕ) (xs : List ℕ) → len < 2 ^ 64 → IsPrefix (take 12 xs) (header_of len) → len < length (file_of xs) → BeginsFrame xs → ⊥
none-from_count len xs fits (rest, is) many (other, file, other_fits, (after, frame)) =
    let header : IsPrefix (take 12 xs) (header_of other) = taken-begins other file xs (after, frame) in
    let long : 12 < length xs = omega (arith, length-drop 12 xs) in
    let twelve : length (take 12 xs) ≡ 12 = omega (arith, length-take 12 xs) in
    let none : rest ≡ [] = nil_from_length rest (omega (arith, sym (length-header_of len) ∙ ap length is ∙ length-append (take 12 xs) rest)) in
    let own : header_of len ≡ take 12 xs = is ∙ ap (λ ys. take 12 xs ++ ys) none ∙ append-nil (take 12 xs) in
    let its : header_of other ≡ take 12 xs =
    sym (take_all 12 (header_of other) (omega (arith, length-header_of other)))
    ∙ ap (λ n. take n (header_of other)) (sym twelve)
    ∙ IsPrefix-taken (take 12 xs) (header_of other) header in
    let same : len ≡ other = header_of-same len other fits other_fits (own ∙ sym its) in
    absurd (omega (arith, length-drop 12 xs, length-header_of other, length-take other file, sym (length-append (header_of other) (take other file)) ∙ ap length frame ∙ length-append xs after))

-- what no header begins with begins no frame
pub none-from_header : (xs : List ℕ) → ((len : ℕ) → IsPrefix (take 12 xs) (header_of len) → ⊥) → BeginsFrame xs → ⊥
none-from_header xs none (len, file, fits, is) = none len (taken-begins len file xs is)

-- what begins a frame does so without its last bytes
pub begins-shorter : (xs ys : List ℕ) → BeginsFrame (xs ++ ys) → BeginsFrame xs
begins-shorter xs ys (len, file, fits, is) = (len, file, fits, IsPrefix-shorter xs ys (framed len file) is)

-- a whole frame begins one
pub begins-from_frame : (xs : List ℕ) → IsFrame xs → BeginsFrame xs
begins-from_frame xs (file, fits, is) = (length file, file, fits, ([], sym is ∙ sym (append-nil xs)))

-- a whole frame is a header and as many bytes as it tells
pub frame-from_count : (len : ℕ) (xs : List ℕ) → len < 2 ^ 64 → take 12 xs ≡ header_of len → length (file_of xs) ≡ len → IsFrame xs
frame-from_count len xs fits head count = (
  drop 12 xs,
  subst (λ (n : ℕ). n < 2 ^ 64) (sym count) fits,
  sym (take-append-drop 12 xs)
      ∙ ap (λ h. h ++ drop 12 xs) (head ∙ ap header_of (sym count))
      ∙ ap (λ ys. header_of (length (drop 12 xs)) ++ ys) (sym (take_all (length (drop 12 xs)) (drop 12 xs) (omega arith))),
)

pub record IsCounted (len : ℕ) (xs : List ℕ) : Type 0 where
  pub head : take 12 xs ≡ header_of len
  pub count : length (file_of xs) ≡ len

pub count-from_frame : (xs file : List ℕ) → xs ≡ framing_of file → IsCounted (length file) xs
count-from_frame xs file is =
    let whole : take (length file) file ≡ file = take_all (length file) file (omega arith) in
    record {
      head = ap (take 12) is ∙ take_at (header_of (length file)) (take (length file) file) 12 (length-header_of (length file));
      count = ap (λ ys. length (drop 12 ys)) is
          ∙ ap length (drop_at (header_of (length file)) (take (length file) file) 12 (length-header_of (length file)) ∙ whole);
    }

-- the mark stays where a header goes on as another
first_four : (j l len : ℕ) → take 4 (take j (header_of l) ++ drop j (header_of len)) ≡ mark
unfolding header_of
first_four zero l len = refl
first_four (suc zero) l len = refl
first_four (suc (suc zero)) l len = refl
first_four (suc (suc (suc zero))) l len = refl
first_four (suc (suc (suc (suc j)))) l len = refl

-- bytes over a part of a header leave its mark, where some header has them there
pub mark-from_header : (len l at : ℕ) (bytes : List ℕ) → at + length bytes ≤ 12 → IsPrefix (take at (header_of len) ++ bytes) (header_of l) → take 4 (take at (header_of len) ++ bytes ++ drop (at + length bytes) (header_of len)) ≡ mark
mark-from_header len l at bytes fits begins =
    let size : length (take at (header_of len) ++ bytes) ≡ at + length bytes =
    length-append (take at (header_of len)) bytes ∙ omega (arith, length-take at (header_of len), length-header_of len) in
    ap (λ ys. take 4 (ys ++ drop (at + length bytes) (header_of len)))
    (sym (IsPrefix-taken (take at (header_of len) ++ bytes) (header_of l) begins) ∙ ap (λ n. take n (header_of l)) size)
    ∙ first_four (at + length bytes) l len

-- twelve bytes with the mark are the header of the length that the last eight tell
pub header-from_mark : (l : ℕ) (xs last : List ℕ) → take 4 xs ≡ mark → last ≡ drop 4 xs → to_be_bytes w64 l ≡ last → header_of l ≡ xs
unfolding header_of
header-from_mark l xs last first is number =
    ap (λ ys. mark ++ ys) (number ∙ is) ∙ ap (λ ys. ys ++ drop 4 xs) (sym first) ∙ take-append-drop 4 xs
