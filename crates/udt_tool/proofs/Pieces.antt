-- How a text is cut into its pieces at the first line feed.
use Rattle.std.proofs.Common.{◌≡◌, ◌∙◌, ℕ, suc, ◌+◌, ◌<◌, List, [], ◌∷◌, length, take, drop, refl, ap, arith, rules, true, false, Bool, cond}
use Rattle.std.specs.Prelude.{◌==◌, not}
use Rattle.std.specs.List.{prefix_len}
use Rattle.udt_model.specs.Script.{pieces_of, onto_piece, line_in}

-- a line's first byte is a line feed, and the line is empty
empty_line : (c : ℕ) (cs : List ℕ) → (c == 10) ≡ true → line_in (c ∷ cs) ≡ []
empty_line c cs is_end = rw is_end refl

take_one_more : (n c : ℕ) (cs : List ℕ) → take (1 + n) (c ∷ cs) ≡ c ∷ take n cs
take_one_more n c cs = let e : 1 + n ≡ suc n = omega arith in rw e refl

longer_by : (b : Bool) (n c : ℕ) (cs : List ℕ) → b ≡ false → take (cond (not b) (1 + n) 0) (c ∷ cs) ≡ c ∷ take n cs
longer_by true n c cs e = absurd (search rules)
longer_by false n c cs e = take_one_more n c cs

-- another first byte is the first of the line
longer_line : (c : ℕ) (cs : List ℕ) → (c == 10) ≡ false → line_in (c ∷ cs) ≡ c ∷ line_in cs
longer_line c cs other = longer_by (c == 10) (prefix_len (λ byte. not (byte == 10)) cs) c cs other

first_ends : (c : ℕ) (cs : List ℕ) → (c == 10) ≡ true → pieces_of (c ∷ cs) ≡ (c ∷ []) ∷ pieces_of cs
unfolding pieces_of
first_ends c cs is_end = rw is_end refl

first_goes_on : (c : ℕ) (cs : List ℕ) → (c == 10) ≡ false → pieces_of (c ∷ cs) ≡ onto_piece c (pieces_of cs)
unfolding pieces_of
first_goes_on c cs other = rw other refl

pub no_pieces : pieces_of [] ≡ []
unfolding pieces_of
no_pieces = refl

-- a line feed of a line would end it
not_first : (c : ℕ) (cs : List ℕ) → (c == 10) ≡ true → length (line_in (c ∷ cs)) ≡ suc (length cs) → ⊥
not_first c cs is_end all =
    let none : length (line_in (c ∷ cs)) ≡ 0 = ap length (empty_line c cs is_end) in
    omega (arith, none, all)

-- a text without a line feed is one piece
pub one_piece : (text : List ℕ) → 0 < length text → length (line_in text) ≡ length text → pieces_of text ≡ text ∷ []
one_piece [] some all = absurd (omega (arith, some))
one_piece (c ∷ []) some all =
    elim (c == 10) as (λ b. (c == 10) ≡ b → pieces_of (c ∷ []) ≡ (c ∷ []) ∷ []) [
      | true ↦ λ e. absurd (not_first c [] e all)
      | false ↦ λ e. first_goes_on c [] e ∙ ap (onto_piece c) no_pieces
    ] refl
one_piece (c ∷ (d ∷ ds)) some all =
    elim (c == 10) as (λ b. (c == 10) ≡ b → pieces_of (c ∷ (d ∷ ds)) ≡ (c ∷ (d ∷ ds)) ∷ []) [
      | true ↦ λ e. absurd (not_first c (d ∷ ds) e all)
      | false ↦ λ e.
          let longer : length (line_in (c ∷ (d ∷ ds))) ≡ suc (length (line_in (d ∷ ds))) = ap length (longer_line c (d ∷ ds) e) in
          let rest : pieces_of (d ∷ ds) ≡ (d ∷ ds) ∷ [] = one_piece (d ∷ ds) (omega arith) (omega (arith, longer, all)) in
          first_goes_on c (d ∷ ds) e ∙ ap (onto_piece c) rest
    ] refl

-- the piece of a line that ends, and the pieces after it
pub first_piece : (text : List ℕ) → length (line_in text) < length text → pieces_of text ≡ take (suc (length (line_in text))) text ∷ pieces_of (drop (suc (length (line_in text))) text)
first_piece [] ends = absurd (omega (arith, ends))
first_piece (c ∷ cs) ends =
    elim (c == 10) as (λ b. (c == 10) ≡ b → pieces_of (c ∷ cs) ≡ take (suc (length (line_in (c ∷ cs)))) (c ∷ cs) ∷ pieces_of (drop (suc (length (line_in (c ∷ cs)))) (c ∷ cs))) [
      | true ↦ λ e.
          let none : length (line_in (c ∷ cs)) ≡ 0 = ap length (empty_line c cs e) in
          rw none (first_ends c cs e)
      | false ↦ λ e.
          let longer : length (line_in (c ∷ cs)) ≡ suc (length (line_in cs)) = ap length (longer_line c cs e) in
          let rest : pieces_of cs ≡ take (suc (length (line_in cs))) cs ∷ pieces_of (drop (suc (length (line_in cs))) cs) = first_piece cs (omega (arith, longer, ends)) in
          rw longer (first_goes_on c cs e ∙ ap (onto_piece c) rest)
    ] refl

-- the line of a text is the line of its first piece
pub line_length : (text : List ℕ) → length (line_in (take (suc (length (line_in text))) text)) ≡ length (line_in text)
line_length [] = refl
line_length (c ∷ cs) =
    elim (c == 10) as (λ b. (c == 10) ≡ b → length (line_in (take (suc (length (line_in (c ∷ cs)))) (c ∷ cs))) ≡ length (line_in (c ∷ cs))) [
      | true ↦ λ e.
          let none : length (line_in (c ∷ cs)) ≡ 0 = ap length (empty_line c cs e) in
          rw none (ap length (empty_line c [] e))
      | false ↦ λ e.
          let longer : length (line_in (c ∷ cs)) ≡ suc (length (line_in cs)) = ap length (longer_line c cs e) in
          let following : length (line_in (c ∷ take (suc (length (line_in cs))) cs)) ≡ suc (length (line_in (take (suc (length (line_in cs))) cs))) = ap length (longer_line c (take (suc (length (line_in cs))) cs) e) in
          rw longer (following ∙ ap suc (line_length cs))
    ] refl
