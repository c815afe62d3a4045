-- How the receiving half keeps its blocks: placed ones stay in order, and what was read is a front of the blocks
-- joined.
use Rattle.std.proofs.Common.{◌≡◌, ℕ, ◌+◌, ◌-◌, ◌<◌, ◌≤◌, true, false, List, [], ◌∷◌, ◌++◌, length, take, Some, None, refl, ap, ◌∙◌, sym, subst, inl, inr, arith}
use Rattle.std.specs.Prelude.{nat_lt, nat_le, ◌==◌, ◌&&◌, if◌then◌else◌, Option}
use Rattle.std.specs.List.{concat}
use Rattle.std.proofs.lemmas.Bool.{ltb-true, ltb-false, eqb-true, eqb-false, or_parts, cases_Bool, cases_eq, cases_lt}
use Rattle.std.proofs.lemmas.Bool.Decides.{nat_tests}
use Rattle.std.proofs.lemmas.List.{append_assoc, length-append}
use Rattle.std.proofs.Math.Seq.{take-append-add}
use Rattle.udt_model.specs.declared.answers.Placed.TheVariants as placing
use Rattle.udt_model.specs.declared.limits.TheConstants.{PACKET_LIMIT}
use Rattle.udt_model.specs.Numbers.{near}
use Rattle.udt_model.specs.ReceiveBlocks.{PlacedBlock, ReceiveBlocks, is_taken, placing_of, put_block, bytes_from, Beginning, beginning}
use Rattle.udt_model.specs.ReceiveHalf.{Receiving, within_limit, offset_of}
use Rattle.udt_model.specs.Emissions.{IsPrefix}

-- ---- placed blocks

-- the placed blocks stand in rising order, none before this offset
abbrev pub AreRising : ℕ → List PlacedBlock → Type 0
AreRising from [] = Unit {0}
AreRising from (block ∷ others) = (from ≤ block.offset) × AreRising (block.offset + 1) others

-- none of them stands at this offset
abbrev pub AreApart : ℕ → List PlacedBlock → Type 0
AreApart offset [] = Unit {0}
AreApart offset (block ∷ others) = (block.offset ≡ offset → ⊥) × AreApart offset others

-- each of them meets this
abbrev pub AllPlaced : (ℕ → List ℕ → Type 0) → List PlacedBlock → Type 0
AllPlaced P [] = Unit {0}
AllPlaced P (block ∷ others) = P block.offset block.bytes × AllPlaced P others

pub apart_from : (offset : ℕ) (placed : List PlacedBlock) → is_taken offset placed ≡ false → AreApart offset placed
apart_from offset [] none = tt
apart_from offset (block ∷ others) none =
    let parts = or_parts (block.offset == offset) (is_taken offset others) none in
    (eqb-false block.offset offset parts.0, apart_from offset others parts.1)

pub AreRising-sooner : (from sooner : ℕ) (placed : List PlacedBlock) → sooner ≤ from → AreRising from placed → AreRising sooner placed
AreRising-sooner from sooner [] before rising = tt
AreRising-sooner from sooner (block ∷ others) before rising = (omega arith, rising.1)

-- a block at whose offset no other stands comes before the first or after it
put_block-apart : (block first : PlacedBlock) (others : List PlacedBlock) → (first.offset ≡ block.offset → ⊥)
    → put_block block (first ∷ others) ≡ (if nat_lt block.offset first.offset then block ∷ first ∷ others else first ∷ put_block block others)
unfolding put_block
put_block-apart block first others apart =
    let test : (block.offset == first.offset) ≡ false = grind (arith, nat_tests) in
    rw test

-- one more block keeps the order
pub AreRising-put_block : (from : ℕ) (block : PlacedBlock) (placed : List PlacedBlock) → from ≤ block.offset
    → AreApart block.offset placed → AreRising from placed → AreRising from (put_block block placed)
unfolding put_block
AreRising-put_block from block [] low apart rising = (low, tt)
AreRising-put_block from block (first ∷ others) low apart rising =
    subst (AreRising from) (sym (put_block-apart block first others apart.0))
    (elim (nat_lt block.offset first.offset) as (λ before. nat_lt block.offset first.offset ≡ before
    → AreRising from (if before then block ∷ first ∷ others else first ∷ put_block block others)) [
      | true ↦ λ test. let less = ltb-true block.offset first.offset test in (low, (omega arith, rising.1))
      | false ↦ λ test. let least = ltb-false block.offset first.offset test in
          (rising.0, AreRising-put_block (first.offset + 1) block others (omega (arith, least, apart.0)) apart.1 rising.1)
    ] refl)

pub AllPlaced-put_block : (P : ℕ → List ℕ → Type 0) (block : PlacedBlock) (placed : List PlacedBlock) → P block.offset block.bytes
    → AreApart block.offset placed → AllPlaced P placed → AllPlaced P (put_block block placed)
unfolding put_block
AllPlaced-put_block P block [] here apart all = (here, tt)
AllPlaced-put_block P block (first ∷ others) here apart all =
    subst (AllPlaced P) (sym (put_block-apart block first others apart.0))
    (elim (nat_lt block.offset first.offset) as (λ before.
    AllPlaced P (if before then block ∷ first ∷ others else first ∷ put_block block others)) [
      | true ↦ (here, all)
      | false ↦ (all.0, AllPlaced-put_block P block others here apart.1 all.1)
    ])

-- the offset of a data packet is near the greatest that arrived, and below the limit
pub record HasOffset (r : Receiving) (number offset : ℕ) : Type 0 where
  pub is_near : near r.isn r.top number ≡ Some offset
  pub within : offset < PACKET_LIMIT

limit-some : (found : Option ℕ) (offset : ℕ) → within_limit found ≡ Some offset → (found ≡ Some offset) × (offset < PACKET_LIMIT)
limit-some None offset is = absurd (cc)
limit-some (Some found) offset is = (grind (arith, nat_tests), grind (arith, nat_tests))

pub offset_of-some : (r : Receiving) (number offset : ℕ) → offset_of r number ≡ Some offset → HasOffset r number offset
unfolding offset_of
offset_of-some r number offset is =
    let found = limit-some (near r.isn r.top number) offset is in
    record { is_near = found.0; within = found.1 }

-- a block is placed only at an offset for which there is room, and at which none is placed
pub record IsFree (b : ReceiveBlocks) (offset : ℕ) : Type 0 where
  pub not_below : b.base ≤ offset
  pub not_above : offset < b.base + b.capacity
  pub apart : AreApart offset b.placed

pub placing-new : (b : ReceiveBlocks) (offset : ℕ) → placing_of b offset ≡ placing.New → IsFree b offset
unfolding placing_of
placing-new b offset is = record {
  not_below = grind (arith, nat_tests, cases_Bool (is_taken offset b.placed));
  not_above = grind (arith, nat_tests, cases_Bool (is_taken offset b.placed));
  apart =
      let free : is_taken offset b.placed ≡ false = grind (arith, nat_tests, cases_Bool (is_taken offset b.placed)) in
      apart_from offset b.placed free;
}

-- ---- reading

-- the blocks that follow one another go on where they did once one more is placed
pub bytes_from-put_block : (from : ℕ) (block : PlacedBlock) (placed : List PlacedBlock) → from ≤ block.offset
    → AreApart block.offset placed → AreRising from placed
    → IsPrefix (bytes_from from placed) (bytes_from from (put_block block placed))
unfolding put_block bytes_from
bytes_from-put_block from block [] low apart rising = (bytes_from from (block ∷ []), refl)
bytes_from-put_block from block (first ∷ others) low apart rising =
    subst (λ placed. IsPrefix (bytes_from from (first ∷ others)) (bytes_from from placed)) (sym (put_block-apart block first others apart.0))
    (elim (nat_lt block.offset first.offset) as (λ before. nat_lt block.offset first.offset ≡ before
    → IsPrefix (bytes_from from (first ∷ others)) (bytes_from from (if before then block ∷ first ∷ others else first ∷ put_block block others))) [
      | true ↦ λ test.
          let less = ltb-true block.offset first.offset test in
          let gap : (first.offset == from) ≡ false = grind (arith, nat_tests) in
          rw gap (_, refl)
      | false ↦ λ test.
          let least = ltb-false block.offset first.offset test in
          elim (first.offset == from) as (λ here. (first.offset == from) ≡ here
          → IsPrefix (if here then first.bytes ++ bytes_from (from + 1) others else [])
          (if here then first.bytes ++ bytes_from (from + 1) (put_block block others) else [])) [
            | true ↦ λ same.
                let at = eqb-true first.offset from same in
                let after = bytes_from-put_block (from + 1) block others (omega (arith, least, apart.0)) apart.1
                (AreRising-sooner (first.offset + 1) (from + 1) others (omega arith) rising.1) in
                (after.0, ap (λ (rest : List ℕ). first.bytes ++ rest) after.1 ∙ sym (append_assoc first.bytes (bytes_from (from + 1) others) after.0))
            | false ↦ λ differs. ([], refl)
          ] refl
    ] refl)

-- these blocks meet this, the first at this offset and each at the next one
abbrev pub AllFrom : (ℕ → List ℕ → Type 0) → ℕ → List (List ℕ) → Type 0
AllFrom P offset [] = Unit {0}
AllFrom P offset (bytes ∷ others) = P offset bytes × AllFrom P (offset + 1) others

pub AllFrom-append : (P : ℕ → List ℕ → Type 0) (offset : ℕ) (blocks more : List (List ℕ)) → AllFrom P offset blocks
    → AllFrom P (offset + length blocks) more → AllFrom P offset (blocks ++ more)
AllFrom-append P offset [] more all next =
    let same : offset + length {A = List ℕ} [] ≡ offset = omega arith in
    rw same at next
AllFrom-append P offset (bytes ∷ others) more all next =
    let same : offset + length (bytes ∷ others) ≡ offset + 1 + length others = omega arith in
    (all.0, AllFrom-append P (offset + 1) others more all.1 (rw same at next))

pub concat-append : (blocks more : List (List ℕ)) → concat (blocks ++ more) ≡ concat blocks ++ concat more
concat-append [] more = refl
concat-append (bytes ∷ others) more =
    ap (λ (rest : List ℕ). bytes ++ rest) (concat-append others more) ∙ sym (append_assoc bytes (concat others) (concat more))

-- what follows from an offset on, by whether the first block stands there
bytes_from-here : (from : ℕ) (block : PlacedBlock) (others : List PlacedBlock) → block.offset ≡ from
    → bytes_from from (block ∷ others) ≡ block.bytes ++ bytes_from (from + 1) others
unfolding bytes_from
bytes_from-here from block others here =
    let test : (block.offset == from) ≡ true = grind (arith, nat_tests) in
    rw test

bytes_from-none : (from : ℕ) → bytes_from from [] ≡ []
unfolding bytes_from
bytes_from-none from = refl

bytes_from-gap : (from : ℕ) (block : PlacedBlock) (others : List PlacedBlock) → (block.offset ≡ from → ⊥)
    → bytes_from from (block ∷ others) ≡ []
unfolding bytes_from
bytes_from-gap from block others gap =
    let test : (block.offset == from) ≡ false = grind (arith, nat_tests) in
    rw test

-- the blocks that follow one another, one by one
pub record AreFollowing (P : ℕ → List ℕ → Type 0) (from : ℕ) (placed : List PlacedBlock) : Type 0 where
  pub blocks : List (List ℕ)
  pub each : AllFrom P from blocks
  pub joined : bytes_from from placed ≡ concat blocks

pub following_blocks : (P : ℕ → List ℕ → Type 0) (from : ℕ) (placed : List PlacedBlock) → AllPlaced P placed → AreFollowing P from placed
following_blocks P from [] all = record { blocks = []; each = tt; joined = bytes_from-none from }
following_blocks P from (block ∷ others) all =
    elim (cases_eq block.offset from) [
      | inl here ↦
          let after = following_blocks P (from + 1) others all.1 in
          record {
            blocks = block.bytes ∷ after.blocks;
            each = (subst (λ offset. P offset block.bytes) here all.0, after.each);
            joined = bytes_from-here from block others here ∙ ap (λ (rest : List ℕ). block.bytes ++ rest) after.joined;
          }
      | inr gap ↦ record { blocks = []; each = tt; joined = bytes_from-gap from block others gap }
    ]

-- what was read up to a front: whole blocks, and a part of those that follow
pub record HasRead (P : ℕ → List ℕ → Type 0) (base given : ℕ) (placed : List PlacedBlock) (front : Beginning) : Type 0 where
  pub blocks : List (List ℕ)
  pub count : front.base ≡ base + length blocks
  pub each : AllFrom P base blocks
  pub rising : AreRising front.base front.placed
  pub all : AllPlaced P front.placed
  pub within : front.given ≤ length (bytes_from front.base front.placed)
  pub same : take given (bytes_from base placed) ≡ concat blocks ++ take front.given (bytes_from front.base front.placed)

-- the front moves past a block whose bytes are all read, and stays before any other
beginning-moves : (base given : ℕ) (block : PlacedBlock) (others : List PlacedBlock) → block.offset ≡ base → length block.bytes ≤ given
    → beginning base given (block ∷ others) ≡ beginning (base + 1) (given - length block.bytes) others
unfolding beginning
beginning-moves base given block others here read =
    let test : (block.offset == base && nat_le (length block.bytes) given) ≡ true = grind (arith, nat_tests) in
    rw test

beginning-stays : (base given : ℕ) (block : PlacedBlock) (others : List PlacedBlock) → (block.offset ≡ base → given < length block.bytes)
    → beginning base given (block ∷ others) ≡ record { base = base; given = given; placed = block ∷ others }
unfolding beginning
beginning-stays base given block others unread =
    let test : (block.offset == base && nat_le (length block.bytes) given) ≡ false = grind (arith, nat_tests) in
    rw test

-- a front that stays has read a part of the blocks that follow, and none whole
stays-reads : (P : ℕ → List ℕ → Type 0) (base given : ℕ) (placed : List PlacedBlock) → AreRising base placed → AllPlaced P placed
    → given ≤ length (bytes_from base placed) → HasRead P base given placed (record { base = base; given = given; placed = placed })
stays-reads P base given placed rising all within =
    record { blocks = []; count = omega arith; each = tt; rising = rising; all = all; within = within; same = refl }

-- and one that moves past a block has read it, and what it reads from the next one on
moves-reads : (P : ℕ → List ℕ → Type 0) (base given : ℕ) (block : PlacedBlock) (others : List PlacedBlock) (front : Beginning)
    → block.offset ≡ base → length block.bytes ≤ given → P block.offset block.bytes
    → HasRead P (base + 1) (given - length block.bytes) others front → HasRead P base given (block ∷ others) front
moves-reads P base given block others front here read meets after = record {
  blocks = block.bytes ∷ after.blocks;
  count = omega (arith, after.count);
  each = (subst (λ offset. P offset block.bytes) here meets, after.each);
  rising = after.rising;
  all = after.all;
  within = after.within;
  same =
      let more = given - length block.bytes in
      let follows = bytes_from (base + 1) others in
      let sum : given ≡ length block.bytes + more = omega arith in
      ap (take given) (bytes_from-here base block others here)
      ∙ ap (λ (n : ℕ). take n (block.bytes ++ follows)) sum
      ∙ take-append-add block.bytes follows more
      ∙ ap (λ (rest : List ℕ). block.bytes ++ rest) after.same
      ∙ sym (append_assoc block.bytes (concat after.blocks) (take front.given (bytes_from front.base front.placed)));
}

pub beginning-reads : (P : ℕ → List ℕ → Type 0) (base given : ℕ) (placed : List PlacedBlock) → AreRising base placed
    → AllPlaced P placed → given ≤ length (bytes_from base placed) → HasRead P base given placed (beginning base given placed)
unfolding beginning
beginning-reads P base given [] rising all within = stays-reads P base given [] rising all within
beginning-reads P base given (block ∷ others) rising all within =
    let stays = λ (unread : block.offset ≡ base → given < length block.bytes).
    subst (HasRead P base given (block ∷ others)) (sym (beginning-stays base given block others unread))
    (stays-reads P base given (block ∷ others) rising all within) in
    elim (cases_eq block.offset base) [
      | inl here ↦ elim (cases_lt given (length block.bytes)) [
        | inl less ↦ stays (λ same. less)
        | inr read ↦
            let follows = bytes_from (base + 1) others in
            let fits : given - length block.bytes ≤ length follows =
            omega (arith, ap length (bytes_from-here base block others here), length-append block.bytes follows) in
            let next = AreRising-sooner (block.offset + 1) (base + 1) others (omega arith) rising.1 in
            let after = beginning-reads P (base + 1) (given - length block.bytes) others next all.1 fits in
            subst (HasRead P base given (block ∷ others)) (sym (beginning-moves base given block others here read))
            (moves-reads P base given block others _ here read all.0 after)
      ]
      | inr gap ↦ stays (λ same. absurd (gap same))
    ]
