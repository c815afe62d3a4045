-- The kept blocks of a sending half are blocks of the messages that lie in its direction, up to where these end.
use Rattle.std.proofs.Common.{◌≡◌, ℕ, zero, suc, ◌+◌, ◌-◌, ◌*◌, ◌≤◌, Bool, List, [], ◌∷◌, ◌++◌, length, take, drop, Some, refl, ap, ◌∙◌, sym, subst, arith}
use Rattle.std.specs.Prelude.{Option, slice_get}
use Rattle.std.specs.List.{Contains}
use Rattle.std.proofs.lemmas.List.{length-append, length-drop, drop-drop}
use Rattle.std.proofs.lemmas.List.Elements.{Contains-append_left, Contains-push}
use Rattle.udt_model.specs.SendBlocks.{KeptBlock, SendBlocks, count_for, flags_at, blocks_of, following_message, with_bytes, end_of, kept_at, after_release}
use Rattle.udt_model.proofs.SendingLemmas.{length-blocks_of, kept_at-is}
use Rattle.udt_laws.proofs.laid_messages.Layout.{LaidMessage, AreLaidOut, IsBlockOf}
use Rattle.udt_laws.proofs.laid_messages.LayoutEnds.{layout_end, layout_end-append, laid_out-append}
use Rattle.udt_laws.proofs.laid_messages.LayoutLemmas.{count_for-some}

-- the kept block is that of this offset, of one of the messages
pub record IsKeptOf (payload : ℕ) (messages : List LaidMessage) (offset : ℕ) (block : KeptBlock) : Type 0 where
  pub laid : LaidMessage
  pub among : Contains messages laid
  pub is : block.message ≡ laid.message
  pub from : laid.message.first ≤ offset
  pub to : offset ≤ laid.message.last
  pub flagged : block.flags ≡ flags_at laid.message offset
  pub carries : block.bytes ≡ take payload (drop ((offset - laid.message.first) * payload) laid.bytes)

-- so its flags and its bytes are those of a block of a message
pub kept-is_block : (payload : ℕ) (messages : List LaidMessage) (offset : ℕ) (block : KeptBlock) → IsKeptOf payload messages offset block
    → IsBlockOf payload messages offset block.flags block.bytes
kept-is_block payload messages offset block is =
    record { laid = is.laid; among = is.among; from = is.from; to = is.to; flagged = is.flagged; carries = is.carries }

-- each of these is one of them, the first at this offset
abbrev pub AreKeptOf : ℕ → List LaidMessage → ℕ → List KeptBlock → Type 0
AreKeptOf payload messages offset [] = Unit {0}
AreKeptOf payload messages offset (block ∷ others) = IsKeptOf payload messages offset block × AreKeptOf payload messages (offset + 1) others

-- which they are of more messages too
kept_one-more : (payload : ℕ) (messages more : List LaidMessage) (offset : ℕ) (block : KeptBlock) → IsKeptOf payload messages offset block
    → IsKeptOf payload (messages ++ more) offset block
kept_one-more payload messages more offset block is = record {
  laid = is.laid;
  among = Contains-append_left messages more is.laid is.among;
  is = is.is;
  from = is.from;
  to = is.to;
  flagged = is.flagged;
  carries = is.carries;
}

kept_of-more : (payload : ℕ) (messages more : List LaidMessage) (offset : ℕ) (kept : List KeptBlock) → AreKeptOf payload messages offset kept
    → AreKeptOf payload (messages ++ more) offset kept
kept_of-more payload messages more offset [] are = tt
kept_of-more payload messages more offset (block ∷ others) are = (
  kept_one-more payload messages more offset block are.0,
  kept_of-more payload messages more (offset + 1) others are.1,
)

-- with the ones after them
kept_of-append : (payload : ℕ) (messages : List LaidMessage) (offset : ℕ) (kept more : List KeptBlock) → AreKeptOf payload messages offset kept
    → AreKeptOf payload messages (offset + length kept) more → AreKeptOf payload messages offset (kept ++ more)
kept_of-append payload messages offset [] more one two =
    let same : offset + 0 ≡ offset = omega arith in
    subst (λ (n : ℕ). AreKeptOf payload messages n more) same two
kept_of-append payload messages offset (block ∷ others) more one two =
    let same : offset + suc (length others) ≡ offset + 1 + length others = omega arith in
    (one.0, kept_of-append payload messages (offset + 1) others more one.1 (subst (λ (n : ℕ). AreKeptOf payload messages n more) same two))

-- and without some of the first
kept_of-drop : (payload : ℕ) (messages : List LaidMessage) (offset n : ℕ) (kept : List KeptBlock) → AreKeptOf payload messages offset kept
    → n ≤ length kept → AreKeptOf payload messages (offset + n) (drop n kept)
kept_of-drop payload messages offset zero kept are within =
    let same : offset ≡ offset + 0 = omega arith in
    subst (λ (n : ℕ). AreKeptOf payload messages n kept) same are
kept_of-drop payload messages offset (suc n) [] are within = tt
kept_of-drop payload messages offset (suc n) (block ∷ others) are within =
    let same : offset + 1 + n ≡ offset + suc n = omega arith in
    subst (λ (m : ℕ). AreKeptOf payload messages m (drop n others)) same
    (kept_of-drop payload messages (offset + 1) n others are.1 (omega (arith, within)))

-- the one at a place stands so many offsets later
kept_of-at : (payload : ℕ) (messages : List LaidMessage) (offset : ℕ) (kept : List KeptBlock) (n : ℕ) (block : KeptBlock)
    → AreKeptOf payload messages offset kept → slice_get kept n ≡ Some block → IsKeptOf payload messages (offset + n) block
kept_of-at payload messages offset [] n block are found = absurd (cc)
kept_of-at payload messages offset (first ∷ others) zero block are found =
    let is : first ≡ block = cc in
    let same : offset ≡ offset + 0 = omega arith in
    subst (λ (m : ℕ). IsKeptOf payload messages m block) same (subst (IsKeptOf payload messages offset) is are.0)
kept_of-at payload messages offset (first ∷ others) (suc n) block are found =
    let same : offset + 1 + n ≡ offset + suc n = omega arith in
    subst (λ (m : ℕ). IsKeptOf payload messages m block) same (kept_of-at payload messages (offset + 1) others n block are.1 found)

-- ---- the blocks of a message

-- the bytes of one block are left out
next-bytes : (payload first offset : ℕ) (bytes all : List ℕ) → first ≤ offset → bytes ≡ drop ((offset - first) * payload) all
    → drop payload bytes ≡ drop ((offset + 1 - first) * payload) all
next-bytes payload first offset bytes all from is =
    let next : offset + 1 - first ≡ offset - first + 1 = omega (arith, from) in
    let place : (offset - first + 1) * payload ≡ (offset - first) * payload + payload = grind arith in
    ap (drop payload) is ∙ drop-drop payload ((offset - first) * payload) all
    ∙ ap (λ (n : ℕ). drop n all) (sym place ∙ ap (λ (n : ℕ). n * payload) (sym next))

-- before the first block all are left
all-left : (payload first : ℕ) (bytes : List ℕ) → bytes ≡ drop ((first - first) * payload) bytes
all-left payload first bytes =
    let none : (first - first) * payload ≡ 0 = grind arith in
    ap (λ (n : ℕ). drop n bytes) (sym none)

-- those from one of its offsets on, of the bytes that are left there
blocks_of-kept : (payload : ℕ) (messages : List LaidMessage) (laid : LaidMessage) (offset count : ℕ) (bytes : List ℕ) → Contains messages laid
    → laid.message.first ≤ offset → offset + count ≤ laid.message.last + 1 → bytes ≡ drop ((offset - laid.message.first) * payload) laid.bytes
    → AreKeptOf payload messages offset (blocks_of laid.message payload offset count bytes)
unfolding blocks_of
blocks_of-kept payload messages laid offset zero bytes among from to is = tt
blocks_of-kept payload messages laid offset (suc count) bytes among from to is = (
  record {
    laid = laid;
    among = among;
    is = refl;
    from = from;
    to = omega (arith, to);
    flagged = refl;
    carries = ap (take payload) is;
  },
  blocks_of-kept payload messages laid (offset + 1) count (drop payload bytes) among (omega (arith, from)) (omega (arith, to))
      (next-bytes payload laid.message.first offset bytes laid.bytes from is),
)

-- ---- what is kept

-- the messages lie in the direction up to its end, and the kept blocks are theirs
pub record KeepsLaid (b : SendBlocks) (start : ℕ) (messages : List LaidMessage) : Type 0 where
  pub laid_out : AreLaidOut b.payload start messages
  pub ends : layout_end start messages ≡ end_of b
  pub kept : AreKeptOf b.payload messages b.first b.kept

-- a kept block at its offset
pub kept-laid : (b : SendBlocks) (start : ℕ) (messages : List LaidMessage) (offset : ℕ) (block : KeptBlock) → KeepsLaid b start messages
    → kept_at b offset ≡ Some block → IsKeptOf b.payload messages offset block
kept-laid b start messages offset block keeps is =
    let at = kept_at-is b offset block is in
    let place : b.first + (offset - b.first) ≡ offset = omega (arith, at.not_below) in
    subst (λ (n : ℕ). IsKeptOf b.payload messages n block) place
    (kept_of-at b.payload messages b.first b.kept (offset - b.first) block keeps.kept at.found)

-- where none are kept, no message lies there yet
none-kept : (payload offset : ℕ) (kept : List KeptBlock) → length kept ≡ 0 → AreKeptOf payload [] offset kept
none-kept payload offset [] none = tt
none-kept payload offset (block ∷ others) none = absurd (omega (arith, none))

pub none-laid : (b : SendBlocks) → length b.kept ≡ 0 → KeepsLaid b b.first []
unfolding AreLaidOut layout_end
none-laid b none = record { laid_out = tt; ends = omega (arith, none); kept = none-kept b.payload b.first b.kept none }

-- the message that these bytes make
abbrev pub laid_after : SendBlocks → ℕ → Bool → Option ℕ → List ℕ → LaidMessage
laid_after b number order expires bytes =
    record { message = following_message b (count_for (length bytes) b.payload) number order expires; bytes = bytes }

module _ (b : SendBlocks) (start : ℕ) (messages : List LaidMessage) (keeps : KeepsLaid b start messages) where
  -- it lies after the others
  pub with_bytes-laid : (number : ℕ) (order : Bool) (expires : Option ℕ) (bytes : List ℕ) → 1 ≤ b.payload → 1 ≤ length bytes
      → KeepsLaid (with_bytes b number order expires bytes) start (messages ++ laid_after b number order expires bytes ∷ [])
  unfolding AreLaidOut layout_end
  with_bytes-laid number order expires bytes full some =
      let laid = laid_after b number order expires bytes in
      let count = count_for (length bytes) b.payload in
      let filled = length-blocks_of laid.message b.payload (end_of b) count bytes in
      let blocks = count_for-some (length bytes) b.payload full some in
      let last : end_of b + count - 1 + 1 ≡ end_of b + count = omega (arith, blocks) in
      let longer = length-append b.kept (blocks_of laid.message b.payload (end_of b) count bytes) in
      record {
        laid_out = laid_out-append b.payload start messages (laid ∷ []) keeps.laid_out
            (sym keeps.ends, some, last ∙ ap (λ (n : ℕ). n + count) (sym keeps.ends), tt);
        ends = layout_end-append start messages (laid ∷ []) ∙ omega (arith, last, longer, filled);
        kept = kept_of-append b.payload (messages ++ laid ∷ []) b.first b.kept _
            (kept_of-more b.payload messages (laid ∷ []) b.first b.kept keeps.kept)
            (blocks_of-kept b.payload (messages ++ laid ∷ []) laid (end_of b) count bytes (Contains-push messages laid)
            (omega arith) (omega (arith, last)) (all-left b.payload (end_of b) bytes));
      }

  -- blocks that are released are kept no longer
  pub released-laid : (offset : ℕ) → b.first ≤ offset → offset ≤ end_of b → KeepsLaid (after_release b offset) start messages
  released-laid offset from to =
      let place : b.first + (offset - b.first) ≡ offset = omega (arith, from) in
      let left = length-drop (offset - b.first) b.kept in
      record {
        laid_out = keeps.laid_out;
        ends = keeps.ends ∙ omega (arith, from, to, left);
        kept = subst (λ (n : ℕ). AreKeptOf b.payload messages n (drop (offset - b.first) b.kept)) place
            (kept_of-drop b.payload messages b.first (offset - b.first) b.kept keeps.kept (omega (arith, from, to)));
      }
