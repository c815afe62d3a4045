-- Which offsets have blocks, once one more is placed, once some are consumed, and once bytes were read.
use Rattle.std.proofs.Common.{◌≡◌, ℕ, zero, suc, ◌+◌, ◌-◌, ◌<◌, ◌≤◌, true, false, eqb, leb, ◌&&◌, ltb, List, [], ◌∷◌, length, refl, sym, arith, inl, inr, ◌⊎◌}
use Rattle.std.proofs.lemmas.Bool.{cases_lt, cases_Bool, cases_eq, eqb-true, eq-eqb, and_parts, or_left, or_right, or_cases}
use Rattle.udt_model.specs.ReceiveBlocks.{PlacedBlock, is_taken, beginning, put_block, consumed_at, with_consumed}

-- a block has its own offset, and any other offset that has one keeps it
pub put_own : (block : PlacedBlock) (blocks : List PlacedBlock) → is_taken block.offset (put_block block blocks) ≡ true
unfolding put_block
put_own block [] = or_left (eqb block.offset block.offset) false (eq-eqb block.offset block.offset refl)
put_own block (first ∷ others) = elim (cases_Bool (ltb block.offset first.offset)) [
  | inl before ↦ rw before (or_left (eqb block.offset block.offset) _ (eq-eqb block.offset block.offset refl))
  | inr after ↦ elim (cases_Bool (eqb block.offset first.offset)) [
    | inl same ↦ rw (after, same) (or_left (eqb block.offset block.offset) _ (eq-eqb block.offset block.offset refl))
    | inr apart ↦ rw (after, apart) (or_right (eqb first.offset block.offset) _ (put_own block others))
  ]
]

pub put_keeps : (n : ℕ) (block : PlacedBlock) (blocks : List PlacedBlock) → is_taken n blocks ≡ true → is_taken n (put_block block blocks) ≡ true
unfolding put_block
put_keeps n block [] h = or_right (eqb block.offset n) false h
put_keeps n block (first ∷ others) h = elim (cases_Bool (ltb block.offset first.offset)) [
  | inl before ↦ rw before (or_right (eqb block.offset n) _ h)
  | inr after ↦ elim (cases_Bool (eqb block.offset first.offset)) [
    | inl same ↦
        let at : block.offset ≡ first.offset = eqb-true block.offset first.offset same in
        rw (after, same, at) h
    | inr apart ↦ rw (after, apart) (elim (or_cases (eqb first.offset n) (is_taken n others) h) [
      | inl here ↦ or_left (eqb first.offset n) _ here
      | inr later ↦ or_right (eqb first.offset n) _ (put_keeps n block others later)
    ])
  ]
]

-- and no further one comes to have one
pub put_only : (n : ℕ) (block : PlacedBlock) (blocks : List PlacedBlock) → is_taken n (put_block block blocks) ≡ true → (n ≡ block.offset) ⊎ (is_taken n blocks ≡ true)
unfolding put_block
put_only n block [] h = elim (or_cases (eqb block.offset n) false h) [
  | inl own ↦ inl (sym (eqb-true block.offset n own))
  | inr other ↦ inr other
]
put_only n block (first ∷ others) h = elim (cases_Bool (ltb block.offset first.offset)) [
  | inl before ↦ elim (or_cases (eqb block.offset n) (is_taken n (first ∷ others)) (rw before at h)) [
    | inl own ↦ inl (sym (eqb-true block.offset n own))
    | inr other ↦ inr other
  ]
  | inr after ↦ elim (cases_Bool (eqb block.offset first.offset)) [
    | inl same ↦ elim (or_cases (eqb block.offset n) (is_taken n others) (rw (after, same) at h)) [
      | inl own ↦ inl (sym (eqb-true block.offset n own))
      | inr other ↦ inr (or_right (eqb first.offset n) (is_taken n others) other)
    ]
    | inr apart ↦ elim (or_cases (eqb first.offset n) (is_taken n (put_block block others)) (rw (after, apart) at h)) [
      | inl here ↦ inr (or_left (eqb first.offset n) (is_taken n others) here)
      | inr later ↦ elim (put_only n block others later) [
        | inl own ↦ inl own
        | inr other ↦ inr (or_right (eqb first.offset n) (is_taken n others) other)
      ]
    ]
  ]
]

-- offsets that are consumed have blocks, which are empty
pub consumed_has : (n from count : ℕ) (blocks : List PlacedBlock) → from ≤ n → n < from + count → is_taken n (with_consumed from count blocks) ≡ true
unfolding with_consumed
consumed_has n from zero blocks low high = absurd (omega arith)
consumed_has n from (suc count) blocks low high = elim (cases_eq n (from + count)) [
  | inl own ↦ rw own (put_own (consumed_at (from + count)) (with_consumed from count blocks))
  | inr other ↦
      let below : n < from + count = elim (cases_lt n (from + count)) [ inl less ↦ less | inr more ↦ absurd (other (omega (arith, more, high))) ] in
      put_keeps n (consumed_at (from + count)) (with_consumed from count blocks) (consumed_has n from count blocks low below)
]

-- the others keep theirs
pub consumed_keeps : (n from count : ℕ) (blocks : List PlacedBlock) → is_taken n blocks ≡ true → is_taken n (with_consumed from count blocks) ≡ true
unfolding with_consumed
consumed_keeps n from zero blocks h = h
consumed_keeps n from (suc count) blocks h =
    put_keeps n (consumed_at (from + count)) (with_consumed from count blocks) (consumed_keeps n from count blocks h)

-- and no further one comes to have one
pub consumed_only : (n from count : ℕ) (blocks : List PlacedBlock) → is_taken n (with_consumed from count blocks) ≡ true → (is_taken n blocks ≡ true) ⊎ ((from ≤ n) × (n < from + count))
unfolding with_consumed
consumed_only n from zero blocks h = inl h
consumed_only n from (suc count) blocks h = elim (put_only n (consumed_at (from + count)) (with_consumed from count blocks) h) [
  | inl own ↦ inr (omega (arith, own), omega (arith, own))
  | inr old ↦ elim (consumed_only n from count blocks old) [
    | inl was ↦ inl was
    | inr within ↦ inr (within.0, omega (arith, within.1))
  ]
]

-- the base does not fall
pub begins_later : (blocks : List PlacedBlock) (base given : ℕ) → base ≤ (beginning base given blocks).base
unfolding beginning
begins_later [] base given = omega arith
begins_later (block ∷ others) base given = elim (cases_Bool (eqb block.offset base && leb (length block.bytes) given)) [
  | inl passed ↦ rw passed (omega (arith, begins_later others (base + 1) (given - length block.bytes)))
  | inr stays ↦ rw stays (omega arith)
]

-- where it moves on, each offset that it passes had a block
pub passed_taken : (n : ℕ) (blocks : List PlacedBlock) (base given : ℕ) → base ≤ n → n < (beginning base given blocks).base → is_taken n blocks ≡ true
unfolding beginning
passed_taken n [] base given from to = absurd (omega arith)
passed_taken n (block ∷ others) base given from to = elim (cases_Bool (eqb block.offset base && leb (length block.bytes) given)) [
  | inl passed ↦
      let at : block.offset ≡ base = eqb-true block.offset base (and_parts (eqb block.offset base) (leb (length block.bytes) given) passed).0 in
      let to' = rw passed at to in
      elim (cases_lt base n) [
        | inl above ↦ or_right (eqb block.offset n) (is_taken n others) (passed_taken n others (base + 1) (given - length block.bytes) (omega (arith, above)) to')
        | inr here ↦ or_left (eqb block.offset n) (is_taken n others) (eq-eqb block.offset n (omega (arith, at, here, from)))
      ]
  | inr stays ↦ let to' = rw stays at to in absurd (omega (arith, from, to'))
]

-- what is left has no block that wasn't there
pub left_only : (n : ℕ) (blocks : List PlacedBlock) (base given : ℕ) → is_taken n (beginning base given blocks).placed ≡ true → is_taken n blocks ≡ true
unfolding beginning
left_only n [] base given h = h
left_only n (block ∷ others) base given h = elim (cases_Bool (eqb block.offset base && leb (length block.bytes) given)) [
  | inl passed ↦ or_right (eqb block.offset n) (is_taken n others) (left_only n others (base + 1) (given - length block.bytes) (rw passed at h))
  | inr stays ↦ rw stays at h
]

-- and has each block from the new base on
pub left_keeps : (n : ℕ) (blocks : List PlacedBlock) (base given : ℕ) → (beginning base given blocks).base ≤ n → is_taken n blocks ≡ true → is_taken n (beginning base given blocks).placed ≡ true
unfolding beginning
left_keeps n [] base given from h = h
left_keeps n (block ∷ others) base given from h = elim (cases_Bool (eqb block.offset base && leb (length block.bytes) given)) [
  | inl passed ↦
      let at : block.offset ≡ base = eqb-true block.offset base (and_parts (eqb block.offset base) (leb (length block.bytes) given) passed).0 in
      let from' = rw passed at from in
      let later = begins_later others (base + 1) (given - length block.bytes) in
      elim (or_cases (eqb block.offset n) (is_taken n others) h) [
        | inl here ↦ let same : block.offset ≡ n = eqb-true block.offset n here in absurd (omega (arith, from', later, same, at))
        | inr other ↦ rw passed (left_keeps n others (base + 1) (given - length block.bytes) from' other)
      ]
  | inr stays ↦ rw stays h
]
