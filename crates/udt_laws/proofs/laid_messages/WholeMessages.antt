-- A message that is readable is one of the layout, whole.
use Rattle.std.proofs.Common.{◌≡◌, ℕ, ◌+◌, ◌-◌, ◌≤◌, Bool, true, false, List, [], ◌∷◌, ◌++◌, length, map, take, ap, ◌∙◌, sym, subst, arith}
use Rattle.std.specs.Prelude.{◌==◌}
use Rattle.std.specs.List.{Contains, concat}
use Rattle.std.proofs.lemmas.Bool.{eqb-true, eqb-false}
use Rattle.std.proofs.lemmas.List.{append-nil}
use Rattle.udt_model.specs.declared.packets.Flags.{Flags}
use Rattle.udt_model.specs.Readable.{IsPartOf, AreParts, IsReadable}
use Rattle.udt_model.specs.ReceiveBlocks.{PlacedBlock, ReceiveBlocks, WholeMessage}
use Rattle.udt_model.specs.SendBlocks.{flags_at}
use Rattle.udt_laws.proofs.laid_messages.Layout.{LaidMessage, AreLaidOut, IsBlockOf}
use Rattle.udt_laws.proofs.laid_messages.LayoutLemmas.{Covers, rest_of, rest_of-all, rest_of-more, lies-from, one-message, slice-last}
use Rattle.udt_laws.proofs.laid_messages.ReceivedLayout.{IsOfLayout}

-- ---- blocks of a message

-- the block is that of the message at this offset
pub record IsSliceOf (payload : ℕ) (laid : LaidMessage) (offset : ℕ) (block : PlacedBlock) : Type 0 where
  pub flagged : block.flags ≡ flags_at laid.message offset
  pub carries : block.bytes ≡ take payload (rest_of payload laid (offset - laid.message.first))

-- the blocks are those of the message from this offset on
record AreRestOf (payload : ℕ) (laid : LaidMessage) (offset : ℕ) (blocks : List PlacedBlock) : Type 0 where
  ends : offset + length blocks ≡ laid.message.last + 1
  joined : concat (map (λ (block : PlacedBlock). block.bytes) blocks) ≡ rest_of payload laid (offset - laid.message.first)

-- a message of the layout was found, and its first block is this
pub record IsFoundAs (payload : ℕ) (messages : List LaidMessage) (m : WholeMessage) (block : PlacedBlock) : Type 0 where
  pub laid : LaidMessage
  pub among : Contains messages laid
  pub at : laid.message.first ≡ m.first
  pub ends : m.first + m.count ≡ laid.message.last + 1
  pub bytes : m.bytes ≡ laid.bytes
  pub flagged : block.flags ≡ flags_at laid.message m.first

-- the first of the parts is a part
pub first-part : (b : ReceiveBlocks) (offset number : ℕ) (first : PlacedBlock) (others : List PlacedBlock) → AreParts b offset number (first ∷ others)
    → IsPartOf b offset number first
first-part b offset number first [] parts = parts.0
first-part b offset number first (next ∷ others) parts = parts.0

-- ---- what is readable

module _ (payload start : ℕ) (messages : List LaidMessage) (some : 1 ≤ payload) (lie : AreLaidOut payload start messages)
    (b : ReceiveBlocks) (kept : IsOfLayout payload messages b) where
  -- an unread block at an offset of a message is its block of this offset
  pub slice-of : (laid : LaidMessage) (offset : ℕ) (block : PlacedBlock) → Contains messages laid → Covers laid offset → Contains b.placed block
      → block.offset ≡ offset → block.consumed ≡ false → IsSliceOf payload laid offset block
  slice-of laid offset block among covers there at unread =
      let own : IsBlockOf payload messages offset block.flags block.bytes =
      subst (λ (n : ℕ). IsBlockOf payload messages n block.flags block.bytes) at (kept.unread block there unread) in
      let same = one-message payload some start messages own.laid laid offset lie own.among among (record { from = own.from; to = own.to }) covers in
      record {
        flagged = own.flagged ∙ ap (λ (x : LaidMessage). flags_at x.message offset) same;
        carries = own.carries ∙ ap (λ (x : LaidMessage). take payload (rest_of payload x (offset - x.message.first))) same;
      }

  -- so is a part
  part-slice : (laid : LaidMessage) (offset number : ℕ) (block : PlacedBlock) → Contains messages laid → Covers laid offset
      → IsPartOf b offset number block → IsSliceOf payload laid offset block
  part-slice laid offset number block among covers part = slice-of laid offset block among covers part.among part.at part.unread

  -- the last part is the last block, and no other part is
  part-last : (laid : LaidMessage) (offset : ℕ) (block : PlacedBlock) (last : Bool) → IsSliceOf payload laid offset block → block.flags.last ≡ last
      → (offset == laid.message.last) ≡ last
  part-last laid offset block last slice is = sym (ap (λ (x : Flags). x.last) slice.flagged) ∙ is

  -- it has the rest of the message
  rest-last : (laid : LaidMessage) (offset : ℕ) (block : PlacedBlock) → Contains messages laid → IsSliceOf payload laid offset block
      → block.flags.last ≡ true → AreRestOf payload laid offset (block ∷ [])
  rest-last laid offset block among slice last =
      let at : offset ≡ laid.message.last = eqb-true offset laid.message.last (part-last laid offset block true slice last) in
      let all = slice-last payload some start laid (lies-from payload some start messages laid lie among) in
      record {
        ends = omega (arith, at);
        joined = append-nil block.bytes ∙ slice.carries
            ∙ subst (λ (n : ℕ). take payload (rest_of payload laid (n - laid.message.first)) ≡ rest_of payload laid (n - laid.message.first)) (sym at) all;
      }

  -- any other has its own bytes, and the next ones the rest
  rest-more : (laid : LaidMessage) (offset : ℕ) (block : PlacedBlock) (others : List PlacedBlock) → Covers laid offset → IsSliceOf payload laid offset block
      → AreRestOf payload laid (offset + 1) others → AreRestOf payload laid offset (block ∷ others)
  rest-more laid offset block others covers slice rest =
      let n = offset - laid.message.first in
      let next : offset + 1 - laid.message.first ≡ n + 1 = omega (arith, covers.from) in
      record {
        ends = omega (arith, rest.ends);
        joined = ap (λ (more : List ℕ). block.bytes ++ more) (rest.joined ∙ ap (rest_of payload laid) next)
            ∙ ap (λ (bytes : List ℕ). bytes ++ rest_of payload laid (n + 1)) slice.carries ∙ rest_of-more payload n laid;
      }

  -- parts from an offset on are all blocks from there on
  parts-rest : (laid : LaidMessage) (offset number : ℕ) (block : PlacedBlock) (others : List PlacedBlock) → Contains messages laid
      → Covers laid offset → AreParts b offset number (block ∷ others) → AreRestOf payload laid offset (block ∷ others)
  parts-rest laid offset number block [] among covers parts =
      rest-last laid offset block among (part-slice laid offset number block among covers parts.0) parts.1
  parts-rest laid offset number block (next ∷ others) among covers parts =
      let slice = part-slice laid offset number block among covers parts.0 in
      let apart = eqb-false offset laid.message.last (part-last laid offset block false slice parts.1) in
      let on : Covers laid (offset + 1) = record { from = omega (arith, covers.from); to = omega (arith, covers.to, apart) } in
      rest-more laid offset block (next ∷ others) covers slice (parts-rest laid (offset + 1) number next others among on parts.2)

  -- a readable message is one of the layout, whole
  pub readable-laid : (m : WholeMessage) (readable : IsReadable b m) → IsFoundAs payload messages m readable.first
  readable-laid m readable =
      let block = readable.first in
      let part = first-part b m.first block.flags.message block readable.others readable.parts in
      let own : IsBlockOf payload messages m.first block.flags block.bytes =
      subst (λ (n : ℕ). IsBlockOf payload messages n block.flags block.bytes) part.at (kept.unread block part.among part.unread) in
      let begins : m.first ≡ own.laid.message.first =
      eqb-true m.first own.laid.message.first (sym (ap (λ (x : Flags). x.first) own.flagged) ∙ readable.begins) in
      let rest = parts-rest own.laid m.first block.flags.message block readable.others own.among (record { from = own.from; to = own.to }) readable.parts in
      let at : m.first - own.laid.message.first ≡ 0 = omega (arith, begins) in
      record {
        laid = own.laid;
        among = own.among;
        at = sym begins;
        ends = omega (arith, rest.ends, readable.count);
        bytes = readable.joined ∙ rest.joined ∙ ap (rest_of payload own.laid) at ∙ rest_of-all payload own.laid;
        flagged = own.flagged;
      }
