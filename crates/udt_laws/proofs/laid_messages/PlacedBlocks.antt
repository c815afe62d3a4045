-- Which blocks are placed once one more is put among them, once offsets are consumed, and once the base moved on.
use Rattle.std.proofs.Common.{◌≡◌, ℕ, zero, suc, ◌+◌, ◌-◌, ◌<◌, ◌≤◌, true, eqb, leb, ltb, ◌&&◌, List, [], ◌∷◌, length, ap, ◌∙◌, sym, subst, inl, inr, ◌⊎◌, arith}
use Rattle.std.specs.List.{Contains}
use Rattle.std.proofs.lemmas.Bool.{and_parts, eqb-true, ltb-true, ltb-false, leb-true, cases_lt, cases_eq, cases_Bool, eqb-false, or_cases}
use Rattle.udt_model.specs.ReceiveBlocks.{PlacedBlock, Beginning, is_taken, put_block, consumed_at, with_consumed, beginning}
use Rattle.udt_model.proofs.ReceivingLemmas.{AreRising}
use Rattle.udt_model.proofs.Members.{first-contained, other-contained, none-contained, contained-cases}

-- ---- rising blocks

-- rising ones lie from the first offset on
pub above-first : (from : ℕ) (placed : List PlacedBlock) (block : PlacedBlock) → AreRising from placed → Contains placed block → from ≤ block.offset
above-first from [] block rising there = absurd (none-contained block there)
above-first from (first ∷ others) block rising there = elim (contained-cases first others block there) [
  | inl same ↦ subst (λ (x : PlacedBlock). from ≤ x.offset) same rising.0
  | inr later ↦ omega (arith, rising.0, above-first (first.offset + 1) others block rising.1 later)
]

-- so no two of them have one offset
pub one-block : (from : ℕ) (placed : List PlacedBlock) (one other : PlacedBlock) → AreRising from placed → Contains placed one → Contains placed other
    → one.offset ≡ other.offset → one ≡ other
one-block from [] one other rising there too at = absurd (none-contained one there)
one-block from (first ∷ others) one other rising there too at = elim (contained-cases first others one there) [
  | inl same ↦ elim (contained-cases first others other too) [
    | inl same_too ↦ sym same ∙ same_too
    | inr later ↦ absurd (omega (arith, ap (λ (x : PlacedBlock). x.offset) same, above-first (first.offset + 1) others other rising.1 later, at))
  ]
  | inr sooner ↦ elim (contained-cases first others other too) [
    | inl same_too ↦ absurd (omega (arith, ap (λ (x : PlacedBlock). x.offset) same_too, above-first (first.offset + 1) others one rising.1 sooner, at))
    | inr later ↦ one-block (first.offset + 1) others one other rising.1 sooner later at
  ]
]

-- a block stands at this offset
pub record HasBlockAt (placed : List PlacedBlock) (offset : ℕ) : Type 0 where
  pub block : PlacedBlock
  pub among : Contains placed block
  pub at : block.offset ≡ offset

-- so it does where the offset is taken
pub taken-contained : (placed : List PlacedBlock) (offset : ℕ) → is_taken offset placed ≡ true → HasBlockAt placed offset
taken-contained [] offset taken = absurd (cc)
taken-contained (first ∷ others) offset taken = elim (or_cases (eqb first.offset offset) (is_taken offset others) taken) [
  | inl here ↦ record { block = first; among = first-contained first others; at = eqb-true first.offset offset here }
  | inr later ↦
      let found = taken-contained others offset later in
      record { block = found.block; among = other-contained first others found.block found.among; at = found.at }
]

-- ---- one more block

-- it stands among them
pub put-own : (block : PlacedBlock) (placed : List PlacedBlock) → Contains (put_block block placed) block
unfolding put_block
put-own block [] = first-contained block []
put-own block (first ∷ others) = elim (cases_Bool (ltb block.offset first.offset)) [
  | inl before ↦ rw before (first-contained block (first ∷ others))
  | inr after ↦ elim (cases_Bool (eqb block.offset first.offset)) [
    | inl same ↦ rw (after, same) (first-contained block others)
    | inr apart ↦ rw (after, apart) (other-contained first (put_block block others) block (put-own block others))
  ]
]

-- all others stay that have another offset
pub put-keeps : (block other : PlacedBlock) (placed : List PlacedBlock) → (other.offset ≡ block.offset → ⊥) → Contains placed other
    → Contains (put_block block placed) other
unfolding put_block
put-keeps block other [] differs there = absurd (none-contained other there)
put-keeps block other (first ∷ others) differs there = elim (cases_Bool (ltb block.offset first.offset)) [
  | inl before ↦ rw before (other-contained block (first ∷ others) other there)
  | inr after ↦ elim (cases_Bool (eqb block.offset first.offset)) [
    | inl same ↦ rw (after, same) (elim (contained-cases first others other there) [
      | inl here ↦ absurd (differs (sym (eqb-true block.offset first.offset same ∙ ap (λ (x : PlacedBlock). x.offset) here)))
      | inr later ↦ other-contained block others other later
    ])
    | inr apart ↦ rw (after, apart) (elim (contained-cases first others other there) [
      | inl here ↦ subst (Contains (first ∷ put_block block others)) here (first-contained first (put_block block others))
      | inr later ↦ other-contained first (put_block block others) other (put-keeps block other others differs later)
    ])
  ]
]

-- and no further one comes
pub put-only : (block other : PlacedBlock) (placed : List PlacedBlock) → Contains (put_block block placed) other
    → (block ≡ other) ⊎ Contains placed other
unfolding put_block
put-only block other [] there = contained-cases block [] other there
put-only block other (first ∷ others) there = elim (cases_Bool (ltb block.offset first.offset)) [
  | inl before ↦ contained-cases block (first ∷ others) other (rw before at there)
  | inr after ↦ elim (cases_Bool (eqb block.offset first.offset)) [
    | inl same ↦ elim (contained-cases block others other (rw (after, same) at there)) [
      | inl own ↦ inl own
      | inr later ↦ inr (other-contained first others other later)
    ]
    | inr apart ↦ elim (contained-cases first (put_block block others) other (rw (after, apart) at there)) [
      | inl here ↦ inr (subst (Contains (first ∷ others)) here (first-contained first others))
      | inr later ↦ elim (put-only block other others later) [
        | inl own ↦ inl own
        | inr old ↦ inr (other-contained first others other old)
      ]
    ]
  ]
]

-- the offsets still rise, also where a block takes the place of another
pub put-rising : (from : ℕ) (block : PlacedBlock) (placed : List PlacedBlock) → from ≤ block.offset → AreRising from placed
    → AreRising from (put_block block placed)
unfolding put_block
put-rising from block [] low rising = (low, tt)
put-rising from block (first ∷ others) low rising = elim (cases_Bool (ltb block.offset first.offset)) [
  | inl before ↦ rw before (low, (omega (arith, ltb-true block.offset first.offset before), rising.1))
  | inr after ↦ elim (cases_Bool (eqb block.offset first.offset)) [
    | inl same ↦
        let at = eqb-true block.offset first.offset same in
        rw (after, same) (low, subst (λ (n : ℕ). AreRising (n + 1) others) (sym at) rising.1)
    | inr apart ↦
        let above : first.offset + 1 ≤ block.offset =
        omega (arith, ltb-false block.offset first.offset after, eqb-false block.offset first.offset apart) in
        rw (after, apart) (rising.0, put-rising (first.offset + 1) block others above rising.1)
  ]
]

-- ---- consumed offsets

-- each of them has a block that is consumed
pub consumed-own : (n from count : ℕ) (placed : List PlacedBlock) → from ≤ n → n < from + count
    → Contains (with_consumed from count placed) (consumed_at n)
unfolding with_consumed
consumed-own n from zero placed low high = absurd (omega (arith, low, high))
consumed-own n from (suc count) placed low high = elim (cases_eq n (from + count)) [
  | inl own ↦ rw own (put-own (consumed_at (from + count)) (with_consumed from count placed))
  | inr other ↦
      put-keeps (consumed_at (from + count)) (consumed_at n) (with_consumed from count placed) other
      (consumed-own n from count placed low (omega (arith, high, other)))
]

-- the blocks of other offsets stay
pub consumed-keeps : (block : PlacedBlock) (from count : ℕ) (placed : List PlacedBlock) → (from ≤ block.offset → block.offset < from + count → ⊥)
    → Contains placed block → Contains (with_consumed from count placed) block
unfolding with_consumed
consumed-keeps block from zero placed outside there = there
consumed-keeps block from (suc count) placed outside there =
    put-keeps (consumed_at (from + count)) block (with_consumed from count placed)
    (λ own. outside (omega (arith, own)) (omega (arith, own)))
    (consumed-keeps block from count placed (λ low high. outside low (omega (arith, high))) there)

-- a block that stands among the consumed ones
pub record IsConsumedOf (from count : ℕ) (block : PlacedBlock) : Type 0 where
  pub consumed : block.consumed ≡ true
  pub low : from ≤ block.offset
  pub high : block.offset < from + count

-- no other comes
pub consumed-only : (block : PlacedBlock) (from count : ℕ) (placed : List PlacedBlock) → Contains (with_consumed from count placed) block
    → IsConsumedOf from count block ⊎ Contains placed block
unfolding with_consumed
consumed-only block from zero placed there = inr there
consumed-only block from (suc count) placed there = elim (put-only (consumed_at (from + count)) block (with_consumed from count placed) there) [
  | inl own ↦
      let at : from + count ≡ block.offset = ap (λ (x : PlacedBlock). x.offset) own in
      inl (record { consumed = sym (ap (λ (x : PlacedBlock). x.consumed) own); low = omega (arith, at); high = omega (arith, at) })
  | inr old ↦ elim (consumed-only block from count placed old) [
    | inl one ↦ inl (record { consumed = one.consumed; low = one.low; high = omega (arith, one.high) })
    | inr was ↦ inr was
  ]
]

-- and the offsets still rise
pub consumed-rising : (base from count : ℕ) (placed : List PlacedBlock) → base ≤ from → AreRising base placed
    → AreRising base (with_consumed from count placed)
unfolding with_consumed
consumed-rising base from zero placed low rising = rising
consumed-rising base from (suc count) placed low rising =
    put-rising base (consumed_at (from + count)) (with_consumed from count placed) (omega (arith, low))
    (consumed-rising base from count placed low rising)

-- ---- the base moves on

-- at this offset stands a block with no bytes
pub record IsEmptyAt (placed : List PlacedBlock) (offset : ℕ) : Type 0 where
  pub block : PlacedBlock
  pub among : Contains placed block
  pub at : block.offset ≡ offset
  pub empty : length block.bytes ≡ 0

-- where blocks begin once the base moved over the empty ones
pub record MovesOn (base : ℕ) (placed : List PlacedBlock) (front : Beginning) : Type 0 where
  pub given : front.given ≡ 0
  pub later : base ≤ front.base
  pub rising : AreRising front.base front.placed
  pub among : (block : PlacedBlock) → Contains front.placed block → Contains placed block
  pub keeps : (block : PlacedBlock) → Contains placed block → (block.offset < front.base) ⊎ Contains front.placed block
  pub passed : (n : ℕ) → base ≤ n → n < front.base → IsEmptyAt placed n

-- the base stays where no empty block stands there
stays-on : (base given : ℕ) (placed : List PlacedBlock) → given ≡ 0 → AreRising base placed
    → MovesOn base placed (record { base = base; given = given; placed = placed })
stays-on base given placed none rising = record {
  given = none;
  later = omega arith;
  rising = rising;
  among = λ block there. there;
  keeps = λ block there. inr there;
  passed = λ n low high. absurd (omega (arith, low, high));
}

-- and passes an empty one
passes-on : (base : ℕ) (block : PlacedBlock) (others : List PlacedBlock) (front : Beginning) → block.offset ≡ base → length block.bytes ≡ 0
    → MovesOn (base + 1) others front → MovesOn base (block ∷ others) front
passes-on base block others front at empty rest = record {
  given = rest.given;
  later = omega (arith, rest.later);
  rising = rest.rising;
  among = λ one there. other-contained block others one (rest.among one there);
  keeps = λ one there. elim (contained-cases block others one there) [
    | inl same ↦ inl (omega (arith, ap (λ (x : PlacedBlock). x.offset) same, at, rest.later))
    | inr later ↦ rest.keeps one later
  ];
  passed = λ n low high. elim (cases_lt base n) [
    | inl above ↦
        let found = rest.passed n (omega (arith, above)) high in
        record { block = found.block; among = other-contained block others found.block found.among; at = found.at; empty = found.empty }
    | inr here ↦ record { block = block; among = first-contained block others; at = omega (arith, at, low, here); empty = empty }
  ];
}

-- so it moves on over the empty ones
pub beginning-moves : (base given : ℕ) (placed : List PlacedBlock) → given ≡ 0 → AreRising base placed
    → MovesOn base placed (beginning base given placed)
unfolding beginning
beginning-moves base given [] none rising = stays-on base given [] none tt
beginning-moves base given (block ∷ others) none rising = elim (cases_Bool (eqb block.offset base && leb (length block.bytes) given)) [
  | inl passed ↦
      let parts = and_parts (eqb block.offset base) (leb (length block.bytes) given) passed in
      let at = eqb-true block.offset base parts.0 in
      let empty : length block.bytes ≡ 0 = omega (arith, leb-true (length block.bytes) given parts.1, none) in
      let next : AreRising (base + 1) others = subst (λ (n : ℕ). AreRising (n + 1) others) at rising.1 in
      rw passed (passes-on base block others _ at empty
      (beginning-moves (base + 1) (given - length block.bytes) others (omega (arith, none)) next))
  | inr stays ↦ rw stays (stays-on base given (block ∷ others) none rising)
]
