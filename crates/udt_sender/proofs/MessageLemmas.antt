-- The messages of kept blocks: each block lies in its own, which is kept to its end, and which of them have expired.
use Rattle.std.proofs.Common.{◌≡◌, ℕ, zero, suc, ◌+◌, ◌-◌, ◌<◌, ◌≤◌, Bool, true, false, List, [], ◌∷◌, ◌++◌, length, take, drop, Option, Some, None, refl, subst, arith}
use Rattle.std.specs.Prelude.{slice_get, option_map, if◌then◌else◌}
use Rattle.std.proofs.lemmas.List.{length-drop, length-append}
use Rattle.udt_model.specs.SendBlocks.{Message, KeptBlock, SendBlocks, end_of, accepted_of, count_for, blocks_of, following_message, after_accept, after_release, kept_at}
use Rattle.udt_model.specs.SendHalf.{has_passed}
use Rattle.udt_model.proofs.SendingLemmas.{kept_at-is}
use Rattle.udt_sender.specs.declared.sender.packing.Dropping.{Dropping}
use Rattle.udt_sender.specs.Messages.{LieInMessages, expired_of, dropping_of}
use Rattle.udt_sender.proofs.BlockLemmas.{length-blocks_of}

-- ---- where blocks lie

LieInMessages-later : (end later offset : ℕ) (kept : List KeptBlock) → end ≤ later → LieInMessages end offset kept → LieInMessages later offset kept
unfolding LieInMessages
LieInMessages-later end later offset [] up lie = tt
LieInMessages-later end later offset (block ∷ others) up lie =
    (lie.0, lie.1, omega (arith, lie.2, up), LieInMessages-later end later (offset + 1) others up lie.3)

LieInMessages-append : (end offset : ℕ) (kept more : List KeptBlock) → LieInMessages end offset kept → LieInMessages end (offset + length kept) more
    → LieInMessages end offset (kept ++ more)
unfolding LieInMessages
LieInMessages-append end offset [] more lie next =
    let same : offset + 0 ≡ offset = omega arith in
    subst (λ (n : ℕ). LieInMessages end n more) same next
LieInMessages-append end offset (block ∷ others) more lie next =
    let same : offset + length (block ∷ others) ≡ offset + 1 + length others = omega arith in
    let rest = subst (λ (n : ℕ). LieInMessages end n more) same next in
    (lie.0, lie.1, lie.2, LieInMessages-append end (offset + 1) others more lie.3 rest)

LieInMessages-drop : (end offset count : ℕ) (kept : List KeptBlock) → LieInMessages end offset kept → LieInMessages end (offset + count) (drop count kept)
unfolding LieInMessages
LieInMessages-drop end offset zero kept lie =
    let same : offset ≡ offset + 0 = omega arith in
    subst (λ (n : ℕ). LieInMessages end n kept) same lie
LieInMessages-drop end offset (suc count) [] lie = tt
LieInMessages-drop end offset (suc count) (block ∷ others) lie =
    let same : offset + 1 + count ≡ offset + suc count = omega arith in
    subst (λ (n : ℕ). LieInMessages end n (drop count others)) same (LieInMessages-drop end (offset + 1) count others lie.3)

-- a block lies in its message, which ends before this offset
abbrev LiesAt : ℕ → ℕ → KeptBlock → Type 0
LiesAt end offset block = (block.message.first ≤ offset) × (offset ≤ block.message.last) × (block.message.last < end)

LieInMessages-at : (end offset place : ℕ) (kept : List KeptBlock) (block : KeptBlock) → LieInMessages end offset kept → slice_get kept place ≡ Some block
    → LiesAt end (offset + place) block
unfolding LieInMessages
LieInMessages-at end offset place [] block lie found = absurd (cc)
LieInMessages-at end offset zero (first ∷ others) block lie found =
    let is : first ≡ block = cc in
    subst (LiesAt end (offset + 0)) is (omega (arith, lie.0), omega (arith, lie.1), lie.2)
LieInMessages-at end offset (suc place) (first ∷ others) block lie found =
    let lies = LieInMessages-at end (offset + 1) place others block lie.3 found in
    (omega (arith, lies.0), omega (arith, lies.1), lies.2)

-- the block that is kept under an offset
pub lies_at : (s : SendBlocks) (offset : ℕ) (block : KeptBlock) → LieInMessages (end_of s) s.first s.kept → kept_at s offset ≡ Some block
    → LiesAt (end_of s) offset block
lies_at s offset block lie found =
    let there = kept_at-is s offset block found in
    let lies = LieInMessages-at (end_of s) s.first (offset - s.first) s.kept block lie there.found in
    (omega (arith, lies.0, there.not_below), omega (arith, lies.1, there.not_below), lies.2)

-- ---- accepting, releasing

-- the blocks of one message lie in it
cut_in_message : (m : Message) (payload offset count end : ℕ) (bytes : List ℕ) → m.first ≤ offset → offset + count ≤ m.last + 1 → (0 < count → m.last < end)
    → LieInMessages end offset (blocks_of m payload offset count bytes)
unfolding blocks_of LieInMessages
cut_in_message m payload offset zero end bytes first last before = tt
cut_in_message m payload offset (suc more) end bytes first last before = (
  first,
  omega (arith, last),
  before (omega arith),
  cut_in_message m payload (offset + 1) more end (drop payload bytes) (omega (arith, first)) (omega (arith, last)) (λ some. before (omega arith)),
)

pub accept_in_messages : (s : SendBlocks) (bytes : List ℕ) (most number : ℕ) (order : Bool) (expires : Option ℕ) → LieInMessages (end_of s) s.first s.kept
    → LieInMessages (end_of (after_accept s bytes most number order expires)) s.first (after_accept s bytes most number order expires).kept
accept_in_messages s bytes most number order expires lie =
    let taken = take (accepted_of s (length bytes) most) bytes in
    let count = count_for (length taken) s.payload in
    let message = following_message s count number order expires in
    let more = blocks_of message s.payload (end_of s) count taken in
    let end = s.first + length (s.kept ++ more) in
    let total = length-append s.kept more in
    let filled = length-blocks_of message s.payload (end_of s) count taken in
    LieInMessages-append end s.first s.kept more (LieInMessages-later (end_of s) end s.first s.kept (omega (arith, total)) lie)
    (cut_in_message message s.payload (end_of s) count end taken (omega arith) (omega arith) (λ some. omega (arith, total, filled, some)))

pub release_in_messages : (s : SendBlocks) (offset : ℕ) → s.first ≤ offset → offset ≤ end_of s → LieInMessages (end_of s) s.first s.kept
    → LieInMessages (end_of (after_release s offset)) offset (after_release s offset).kept
release_in_messages s offset from to lie =
    let left = drop (offset - s.first) s.kept in
    let at : s.first + (offset - s.first) ≡ offset = omega (arith, from) in
    let end : end_of s ≡ offset + length left = omega (arith, from, to, length-drop (offset - s.first) s.kept) in
    subst (λ (n : ℕ). LieInMessages n offset left) end
    (subst (λ (n : ℕ). LieInMessages (end_of s) n left) at (LieInMessages-drop (end_of s) s.first (offset - s.first) s.kept lie))

-- ---- expiring

expired-by : (passed : Bool) (message : Message) (m : Dropping) → Some m ≡ option_map dropping_of (if passed then Some message else None)
    → (passed ≡ true) × (m ≡ dropping_of message)
expired-by true message m is = (refl, cc)
expired-by false message m is = absurd (cc)

lasts-by : (passed : Bool) (message : Message) → None ≡ option_map dropping_of (if passed then Some message else None) → passed ≡ false
lasts-by true message is = absurd (cc)
lasts-by false message is = refl

-- a message that is to be dropped has expired
pub has_expired : (now : ℕ) (found : Option KeptBlock) (block : KeptBlock) (m : Dropping) → found ≡ Some block
    → Some m ≡ option_map dropping_of (expired_of now found) → (has_passed now block.message.expires ≡ true) × (m ≡ dropping_of block.message)
has_expired now found block m there is = expired-by (has_passed now block.message.expires) block.message m (rw there at is)

-- and where there is none, it hasn't
pub has_lasted : (now : ℕ) (found : Option KeptBlock) (block : KeptBlock) → found ≡ Some block → None ≡ option_map dropping_of (expired_of now found)
    → has_passed now block.message.expires ≡ false
has_lasted now found block there is = lasts-by (has_passed now block.message.expires) block.message (rw there at is)
