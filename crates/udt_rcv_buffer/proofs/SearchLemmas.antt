-- One step of the walk that finds the next message.
use Rattle.std.proofs.Common.{◌≡◌, ℕ, ◌+◌, ◌≤◌, Bool, true, false, ◌&&◌, List, [], ◌∷◌, ◌++◌, Some, None, Option, refl, ap, ◌∙◌, arith, inl, inr, append_assoc}
use Rattle.std.specs.Prelude.{option_map}
use Rattle.std.specs.Option.{option_or}
use Rattle.std.proofs.lemmas.Bool.{eq-eqb, ne_eqb, cases_Bool}
use Rattle.udt_model.specs.ReceiveBlocks.{PlacedBlock, WholeMessage, with_first, goes_on, up_to_last, may_begin, message_from}
use Rattle.udt_rcv_buffer.specs.Messages.{followed_by}
use Rattle.udt_rcv_buffer.proofs.PlacedLemmas.{AreFrom}

-- what is still to be found: a message that was begun, or else one of those from here on
unfoldable pub seek : ℕ → Bool → Option (WholeMessage × ℕ) → List PlacedBlock → Option WholeMessage
seek offset gapless None blocks = message_from offset gapless blocks
seek offset gapless (Some (m, number)) blocks = option_or (option_map (followed_by m) (up_to_last offset number blocks)) (message_from offset gapless blocks)

-- ---- an offset is missing

up_to_last-missing : (offset number : ℕ) (blocks : List PlacedBlock) → AreFrom (offset + 1) blocks → up_to_last offset number blocks ≡ None
unfolding AreFrom up_to_last
up_to_last-missing offset number [] from = refl
up_to_last-missing offset number (block ∷ others) from =
    let here : offset + 1 ≤ block.offset = from.0 in
    rw (ne_eqb block.offset offset (λ e. absurd (omega (arith, e)))) refl

message_from-missing : (offset : ℕ) (gapless : Bool) (blocks : List PlacedBlock) → AreFrom (offset + 1) blocks → message_from offset gapless blocks ≡ message_from (offset + 1) false blocks
unfolding AreFrom message_from
message_from-missing offset gapless [] from = refl
message_from-missing offset true (block ∷ others) from =
    let here : offset + 1 ≤ block.offset = from.0 in
    rw (ne_eqb block.offset offset (λ e. absurd (omega (arith, e)))) refl
message_from-missing offset false (block ∷ others) from = refl

pub seek-missing : (offset : ℕ) (gapless : Bool) (begun : Option (WholeMessage × ℕ)) (blocks : List PlacedBlock) → AreFrom (offset + 1) blocks
    → seek offset gapless begun blocks ≡ seek (offset + 1) false None blocks
unfolding seek
seek-missing offset gapless None blocks from = message_from-missing offset gapless blocks from
seek-missing offset gapless (Some (m, number)) blocks from = rw (up_to_last-missing offset number blocks from) (message_from-missing offset gapless blocks from)

-- ---- a block that goes on with no message

-- it is consumed, or of another message
pub up_to_last-other : (offset number : ℕ) (block : PlacedBlock) (others : List PlacedBlock) → goes_on offset number block ≡ false → up_to_last offset number (block ∷ others) ≡ None
unfolding up_to_last
up_to_last-other offset number block others other = rw other refl

and_true : (b : Bool) → (b && true) ≡ b
and_true true = refl
and_true false = refl

-- no message begins with it
pub message_from-none : (gapless : Bool) (block : PlacedBlock) (others : List PlacedBlock) → may_begin gapless block ≡ false
    → message_from block.offset gapless (block ∷ others) ≡ message_from (block.offset + 1) gapless others
unfolding message_from
message_from-none gapless block others not_begun = rw (eq-eqb block.offset block.offset refl, and_true gapless, not_begun) refl

-- or one does
message_from-begun : (gapless : Bool) (block : PlacedBlock) (others : List PlacedBlock) → may_begin gapless block ≡ true
    → message_from block.offset gapless (block ∷ others)
    ≡ option_or (up_to_last block.offset block.flags.message (block ∷ others)) (message_from (block.offset + 1) gapless others)
unfolding message_from
message_from-begun gapless block others begun = rw (eq-eqb block.offset block.offset refl, and_true gapless, begun) refl

-- one that isn't whole is none
message_from-unfinished : (gapless : Bool) (block : PlacedBlock) (others : List PlacedBlock) → up_to_last block.offset block.flags.message (block ∷ others) ≡ None
    → message_from block.offset gapless (block ∷ others) ≡ message_from (block.offset + 1) gapless others
unfolding message_from
message_from-unfinished gapless block others unfinished = elim (cases_Bool (may_begin gapless block)) [
  | inl begun ↦ message_from-begun gapless block others begun ∙ rw unfinished refl
  | inr not_begun ↦ message_from-none gapless block others not_begun
]

-- a block of no message, with which none begins
pub seek-none : (gapless : Bool) (begun : Option (WholeMessage × ℕ)) (block : PlacedBlock) (others : List PlacedBlock)
    → ((m : WholeMessage) (number : ℕ) → begun ≡ Some (m, number) → goes_on block.offset number block ≡ false)
    → message_from block.offset gapless (block ∷ others) ≡ message_from (block.offset + 1) gapless others
    → seek block.offset gapless begun (block ∷ others) ≡ seek (block.offset + 1) gapless None others
unfolding seek
seek-none gapless None block others other next = next
seek-none gapless (Some (m, number)) block others other next = rw (up_to_last-other block.offset number block others (other m number refl)) next

-- a consumed block
pub message_from-consumed : (gapless : Bool) (block : PlacedBlock) (others : List PlacedBlock) → block.consumed ≡ true
    → message_from block.offset gapless (block ∷ others) ≡ message_from (block.offset + 1) gapless others
message_from-consumed gapless block others consumed =
    message_from-unfinished gapless block others (up_to_last-other block.offset block.flags.message block others (rw (eq-eqb block.offset block.offset refl, consumed) refl))

-- ---- a block that goes on with the message

-- a message with a block more
unfoldable pub grown_by : WholeMessage → List ℕ → WholeMessage
grown_by m bytes = record { first = m.first; count = m.count + 1; bytes = m.bytes ++ bytes }

up_to_last-end : (number : ℕ) (block : PlacedBlock) (others : List PlacedBlock) → goes_on block.offset number block ≡ true → block.flags.last ≡ true
    → up_to_last block.offset number (block ∷ others) ≡ Some (record { first = block.offset; count = 1; bytes = block.bytes })
unfolding up_to_last
up_to_last-end number block others goes last = rw (goes, last) refl

up_to_last-more : (number : ℕ) (block : PlacedBlock) (others : List PlacedBlock) → goes_on block.offset number block ≡ true → block.flags.last ≡ false
    → up_to_last block.offset number (block ∷ others) ≡ option_map (with_first block) (up_to_last (block.offset + 1) number others)
unfolding up_to_last
up_to_last-more number block others goes last = rw (goes, last) refl

-- its last block ends it
pub seek-ends : (gapless : Bool) (m : WholeMessage) (number : ℕ) (block : PlacedBlock) (others : List PlacedBlock) → goes_on block.offset number block ≡ true → block.flags.last ≡ true
    → seek block.offset gapless (Some (m, number)) (block ∷ others) ≡ Some (grown_by m block.bytes)
unfolding seek grown_by
seek-ends gapless m number block others goes last = rw (up_to_last-end number block others goes last) refl

-- a piece, a block and the others are a piece with the block, and the others
pieces : (m : WholeMessage) (block : PlacedBlock) (found : Option WholeMessage) → option_map (followed_by m) (option_map (with_first block) found) ≡ option_map (followed_by (grown_by m block.bytes)) found
unfolding grown_by
pieces m block None = refl
pieces m block (Some more) =
    let count : m.count + (more.count + 1) ≡ m.count + 1 + more.count = omega arith in
    rw (count, append_assoc m.bytes block.bytes more.bytes) refl

-- where the message isn't whole, neither is one that begins with this block of it
no_whole : (gapless : Bool) (number : ℕ) (block : PlacedBlock) (others : List PlacedBlock) → goes_on block.offset number block ≡ true → block.flags.message ≡ number → block.flags.last ≡ false
    → up_to_last (block.offset + 1) number others ≡ None
    → message_from block.offset gapless (block ∷ others) ≡ message_from (block.offset + 1) gapless others
no_whole gapless number block others goes same last none =
    let more : up_to_last block.offset block.flags.message (block ∷ others) ≡ None =
    ap (λ (n : ℕ). up_to_last block.offset n (block ∷ others)) same ∙ (up_to_last-more number block others goes last ∙ rw none refl) in
    message_from-unfinished gapless block others more

pub seek-goes_on : (gapless : Bool) (m : WholeMessage) (number : ℕ) (block : PlacedBlock) (others : List PlacedBlock) → goes_on block.offset number block ≡ true → block.flags.message ≡ number → block.flags.last ≡ false
    → seek block.offset gapless (Some (m, number)) (block ∷ others) ≡ seek (block.offset + 1) gapless (Some (grown_by m block.bytes, number)) others
unfolding seek
seek-goes_on gapless m number block others goes same last =
    ap (λ (o : Option WholeMessage). option_or (option_map (followed_by m) o) (message_from block.offset gapless (block ∷ others))) (up_to_last-more number block others goes last)
    ∙ ap (λ (o : Option WholeMessage). option_or o (message_from block.offset gapless (block ∷ others))) (pieces m block (up_to_last (block.offset + 1) number others))
    ∙ by_rest (up_to_last (block.offset + 1) number others) refl
  where
    by_rest : (found : Option WholeMessage) → up_to_last (block.offset + 1) number others ≡ found
        → option_or (option_map (followed_by (grown_by m block.bytes)) found) (message_from block.offset gapless (block ∷ others))
        ≡ option_or (option_map (followed_by (grown_by m block.bytes)) found) (message_from (block.offset + 1) gapless others)
    by_rest None is = no_whole gapless number block others goes same last is
    by_rest (Some more) is = refl

-- ---- a block with which a message begins

-- it is the message's first
unfoldable pub first_piece : PlacedBlock → WholeMessage
first_piece block = record { first = block.offset; count = 1; bytes = block.bytes }

-- what was begun before doesn't go on with it
seek-not : (gapless : Bool) (begun : Option (WholeMessage × ℕ)) (block : PlacedBlock) (others : List PlacedBlock)
    → ((m : WholeMessage) (number : ℕ) → begun ≡ Some (m, number) → goes_on block.offset number block ≡ false)
    → seek block.offset gapless begun (block ∷ others) ≡ message_from block.offset gapless (block ∷ others)
unfolding seek
seek-not gapless None block others other = refl
seek-not gapless (Some (m, number)) block others other = rw (up_to_last-other block.offset number block others (other m number refl)) refl

-- a message of one block
pub seek-single : (gapless : Bool) (begun : Option (WholeMessage × ℕ)) (block : PlacedBlock) (others : List PlacedBlock)
    → ((m : WholeMessage) (number : ℕ) → begun ≡ Some (m, number) → goes_on block.offset number block ≡ false)
    → may_begin gapless block ≡ true → goes_on block.offset block.flags.message block ≡ true → block.flags.last ≡ true
    → seek block.offset gapless begun (block ∷ others) ≡ Some (first_piece block)
unfolding first_piece
seek-single gapless begun block others other may goes last =
    seek-not gapless begun block others other ∙ message_from-begun gapless block others may ∙ rw (up_to_last-end block.flags.message block others goes last) refl

first_then : (block : PlacedBlock) (found : Option WholeMessage) → option_map (with_first block) found ≡ option_map (followed_by (first_piece block)) found
unfolding first_piece
first_then block None = refl
first_then block (Some more) = let count : more.count + 1 ≡ 1 + more.count = omega arith in rw count refl

pub seek-begins : (gapless : Bool) (begun : Option (WholeMessage × ℕ)) (block : PlacedBlock) (others : List PlacedBlock)
    → ((m : WholeMessage) (number : ℕ) → begun ≡ Some (m, number) → goes_on block.offset number block ≡ false)
    → may_begin gapless block ≡ true → goes_on block.offset block.flags.message block ≡ true → block.flags.last ≡ false
    → seek block.offset gapless begun (block ∷ others) ≡ seek (block.offset + 1) gapless (Some (first_piece block, block.flags.message)) others
unfolding seek
seek-begins gapless begun block others other may goes last =
    seek-not gapless begun block others other ∙ message_from-begun gapless block others may
    ∙ ap (λ (o : Option WholeMessage). option_or o (message_from (block.offset + 1) gapless others)) (up_to_last-more block.flags.message block others goes last ∙ first_then block (up_to_last (block.offset + 1) block.flags.message others))
