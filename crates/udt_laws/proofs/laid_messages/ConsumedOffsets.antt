-- Which offsets of what was received are consumed, and how that changes.
use Rattle.std.proofs.Common.{◌≡◌, ℕ, ◌+◌, ◌<◌, ◌≤◌, true, false, leb, ltb, ◌&&◌, List, [], ◌∷◌, length, refl, ap, ◌∙◌, sym, inl, inr, ◌⊎◌, arith}
use Rattle.std.specs.Prelude.{if◌then◌else◌}
use Rattle.std.specs.List.{Contains}
use Rattle.std.proofs.lemmas.Bool.{true≢false, cases_lt, cases_eq, cases_Bool}
use Rattle.udt_model.specs.ReceiveBlocks.{PlacedBlock, ReceiveBlocks, put_block, consumed_at, with_consumed, beginning, given_after, after_consuming}
use Rattle.udt_model.proofs.ReceivingLemmas.{AreRising, AreApart}
use Rattle.udt_model.proofs.Members.{first-contained, other-contained, none-contained, contained-cases}
use Rattle.udt_laws.proofs.laid_messages.PlacedBlocks.{put-keeps, put-only, consumed-own, consumed-keeps, consumed-only, consumed-rising, MovesOn, beginning-moves}

-- at this offset stands a block that is consumed
pub record HasConsumed (placed : List PlacedBlock) (offset : ℕ) : Type 0 where
  pub block : PlacedBlock
  pub among : Contains placed block
  pub at : block.offset ≡ offset
  pub consumed : block.consumed ≡ true

-- the offset is consumed: the base is past it, or its block is
abbrev pub IsConsumed : ReceiveBlocks → ℕ → Type 0
IsConsumed b offset = (offset < b.base) ⊎ HasConsumed b.placed offset

-- ---- whether an offset is consumed

-- none is where the others have none and the first is another
not-has : (first : PlacedBlock) (others : List PlacedBlock) (offset : ℕ) → (HasConsumed others offset → ⊥)
    → (first.offset ≡ offset → first.consumed ≡ true → ⊥) → HasConsumed (first ∷ others) offset → ⊥
not-has first others offset none differs has = elim (contained-cases first others has.block has.among) [
  | inl same ↦ differs (ap (λ (x : PlacedBlock). x.offset) same ∙ has.at) (ap (λ (x : PlacedBlock). x.consumed) same ∙ has.consumed)
  | inr later ↦ none (record { block = has.block; among = later; at = has.at; consumed = has.consumed })
]

-- one of these has, or none
has-by : (first : PlacedBlock) (others : List PlacedBlock) (offset : ℕ) → HasConsumed others offset ⊎ (HasConsumed others offset → ⊥)
    → HasConsumed (first ∷ others) offset ⊎ (HasConsumed (first ∷ others) offset → ⊥)
has-by first others offset (inl later) =
    inl (record { block = later.block; among = other-contained first others later.block later.among; at = later.at; consumed = later.consumed })
has-by first others offset (inr none) = elim (cases_eq first.offset offset) [
  | inl at ↦ elim (cases_Bool first.consumed) [
    | inl consumed ↦ inl (record { block = first; among = first-contained first others; at = at; consumed = consumed })
    | inr unread ↦ inr (not-has first others offset none (λ same is. true≢false (sym is ∙ unread)))
  ]
  | inr apart ↦ inr (not-has first others offset none (λ same is. apart same))
]

has-consumed : (placed : List PlacedBlock) (offset : ℕ) → HasConsumed placed offset ⊎ (HasConsumed placed offset → ⊥)
has-consumed [] offset = inr (λ has. none-contained has.block has.among)
has-consumed (first ∷ others) offset = has-by first others offset (has-consumed others offset)

pub cases_consumed : (b : ReceiveBlocks) (offset : ℕ) → IsConsumed b offset ⊎ (IsConsumed b offset → ⊥)
cases_consumed b offset = elim (cases_lt offset b.base) [
  | inl below ↦ inl (inl below)
  | inr above ↦ elim (has-consumed b.placed offset) [
    | inl has ↦ inl (inr has)
    | inr none ↦ inr (λ is. elim is [ inl below ↦ omega (arith, below, above) | inr has ↦ none has ])
  ]
]

-- ---- blocks in order

-- no byte of the base is given alone, the blocks rise from the base on, and each that isn't consumed has some bytes
pub record AreWhole (b : ReceiveBlocks) : Type 0 where
  pub given : b.given ≡ 0
  pub rising : AreRising b.base b.placed
  pub some : (block : PlacedBlock) → Contains b.placed block → block.consumed ≡ false → 1 ≤ length block.bytes

-- these offsets are consumed then, and no further ones
pub record Consumes (b after : ReceiveBlocks) (from count : ℕ) : Type 0 where
  pub given : after.given ≡ 0
  pub rising : AreRising after.base after.placed
  pub unread : (block : PlacedBlock) → Contains after.placed block → block.consumed ≡ false → Contains b.placed block
  pub keeps : (n : ℕ) → IsConsumed b n → IsConsumed after n
  pub takes : (n : ℕ) → from ≤ n → n < from + count → IsConsumed after n
  pub only : (n : ℕ) → IsConsumed after n → IsConsumed b n ⊎ ((from ≤ n) × (n < from + count))

-- ---- a new block

-- no block stands where none does
apart-from : (placed : List PlacedBlock) (offset : ℕ) (block : PlacedBlock) → AreApart offset placed → Contains placed block → block.offset ≡ offset → ⊥
apart-from [] offset block apart there at = none-contained block there
apart-from (first ∷ others) offset block apart there at = elim (contained-cases first others block there) [
  | inl same ↦ apart.0 (ap (λ (x : PlacedBlock). x.offset) same ∙ at)
  | inr later ↦ apart-from others offset block apart.1 later at
]

-- a new block that isn't consumed changes none of this
pub put-consumes : (b : ReceiveBlocks) (block : PlacedBlock) (n : ℕ) → AreApart block.offset b.placed → block.consumed ≡ false
    → IsConsumed b n → IsConsumed (record b { placed = put_block block b.placed }) n
put-consumes b block n apart unread (inl below) = inl below
put-consumes b block n apart unread (inr has) = inr (record {
  block = has.block;
  among = put-keeps block has.block b.placed (λ at. apart-from b.placed block.offset has.block apart has.among at) has.among;
  at = has.at;
  consumed = has.consumed;
})

-- and makes no offset consumed
pub put-consumes_only : (b : ReceiveBlocks) (block : PlacedBlock) (n : ℕ) → block.consumed ≡ false
    → IsConsumed (record b { placed = put_block block b.placed }) n → IsConsumed b n
put-consumes_only b block n unread (inl below) = inl below
put-consumes_only b block n unread (inr has) = elim (put-only block has.block b.placed has.among) [
  | inl own ↦ absurd (true≢false (sym has.consumed ∙ sym (ap (λ (x : PlacedBlock). x.consumed) own) ∙ unread))
  | inr was ↦ inr (record { block = has.block; among = was; at = has.at; consumed = has.consumed })
]

-- ---- consuming offsets

module _ (b : ReceiveBlocks) (from count : ℕ) (low : b.base ≤ from) (whole : AreWhole b) where
  -- still no byte is given
  given-none : given_after b from count ≡ 0
  given-none = elim (leb from b.base && ltb b.base (from + count)) as (λ within. (if within then 0 else b.given) ≡ 0) [
    | true ↦ refl
    | false ↦ whole.given
  ]

  -- the base moves on over the empty blocks
  moves : MovesOn b.base (with_consumed from count b.placed) (beginning b.base (given_after b from count) (with_consumed from count b.placed))
  moves = beginning-moves b.base (given_after b from count) (with_consumed from count b.placed) given-none
      (consumed-rising b.base from count b.placed low whole.rising)

  -- a block that is consumed or has no bytes stands at an offset that was consumed, or is now
  was-consumed : (block : PlacedBlock) (n : ℕ) → Contains (with_consumed from count b.placed) block → block.offset ≡ n
      → (block.consumed ≡ true) ⊎ (length block.bytes ≡ 0) → IsConsumed b n ⊎ ((from ≤ n) × (n < from + count))
  was-consumed block n there at how = elim (consumed-only block from count b.placed there) [
    | inl own ↦ inr (omega (arith, own.low, at), omega (arith, own.high, at))
    | inr was ↦ elim (cases_Bool block.consumed) [
      | inl is ↦ inl (inr (record { block = block; among = was; at = at; consumed = is }))
      | inr unread ↦ elim how [
        | inl is ↦ absurd (true≢false (sym is ∙ unread))
        | inr empty ↦ absurd (omega (arith, empty, whole.some block was unread))
      ]
    ]
  ]

  -- so no further offset is consumed
  is-consumed : (n : ℕ) → IsConsumed (after_consuming b from count) n → IsConsumed b n ⊎ ((from ≤ n) × (n < from + count))
  is-consumed n (inl below) = elim (cases_lt n b.base) [
    | inl was ↦ inl (inl was)
    | inr above ↦
        let found = moves.passed n above below in
        was-consumed found.block n found.among found.at (inr found.empty)
  ]
  is-consumed n (inr has) = was-consumed has.block n (moves.among has.block has.among) has.at (inl has.consumed)

  -- a block among the consumed ones is still there, or the base is past it
  left-consumed : (block : PlacedBlock) (n : ℕ) → Contains (with_consumed from count b.placed) block → block.offset ≡ n → block.consumed ≡ true
      → IsConsumed (after_consuming b from count) n
  left-consumed block n there at is = elim (moves.keeps block there) [
    | inl passed ↦ inl (omega (arith, passed, at))
    | inr left ↦ inr (record { block = block; among = left; at = at; consumed = is })
  ]

  -- those that are asked are
  now-consumed : (n : ℕ) → from ≤ n → n < from + count → IsConsumed (after_consuming b from count) n
  now-consumed n above below = left-consumed (consumed_at n) n (consumed-own n from count b.placed above below) refl refl

  -- and those that were
  still-consumed : (n : ℕ) → IsConsumed b n → IsConsumed (after_consuming b from count) n
  still-consumed n (inl below) = inl (omega (arith, below, moves.later))
  still-consumed n (inr has) = elim (cases_lt n from) [
    | inl before ↦ left-consumed has.block n
        (consumed-keeps has.block from count b.placed (λ above below. omega (arith, above, before, has.at)) has.among) has.at has.consumed
    | inr above ↦ elim (cases_lt n (from + count)) [
      | inl within ↦ now-consumed n above within
      | inr past ↦ left-consumed has.block n
          (consumed-keeps has.block from count b.placed (λ above below. omega (arith, below, past, has.at)) has.among) has.at has.consumed
    ]
  ]

  -- what waits then waited before
  still-unread : (block : PlacedBlock) → Contains (after_consuming b from count).placed block → block.consumed ≡ false → Contains b.placed block
  still-unread block there unread = elim (consumed-only block from count b.placed (moves.among block there)) [
    | inl own ↦ absurd (true≢false (sym own.consumed ∙ unread))
    | inr was ↦ was
  ]

  pub consuming : Consumes b (after_consuming b from count) from count
  consuming = record {
    given = moves.given;
    rising = moves.rising;
    unread = still-unread;
    keeps = still-consumed;
    takes = now-consumed;
    only = is-consumed;
  }
