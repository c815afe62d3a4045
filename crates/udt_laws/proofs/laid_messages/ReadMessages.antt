-- Reading the next message leaves no ordered one before it unread, where it must be delivered in order itself.
use Rattle.std.proofs.Common.{◌≡◌, ℕ, zero, suc, ◌+◌, ◌-◌, ◌<◌, ◌≤◌, true, false, List, [], ◌∷◌, length, map, Some, refl, ap, ◌∙◌, sym, subst, inl, inr, arith}
use Rattle.std.specs.List.{Contains, concat}
use Rattle.std.proofs.lemmas.Bool.{true≢false, eq-eqb, ne_eqb, cases_lt, cases_Bool}
use Rattle.udt_model.specs.declared.packets.Flags.{Flags}
use Rattle.udt_model.specs.Readable.{IsPartOf, AreParts, IsReadable, IsNextMessage}
use Rattle.udt_model.specs.ReceiveBlocks.{PlacedBlock, ReceiveBlocks, WholeMessage, is_taken, next_message, after_message}
use Rattle.udt_model.specs.SendBlocks.{flags_at}
use Rattle.udt_model.proofs.MessageLemmas.{next_message-is}
use Rattle.udt_laws.proofs.laid_messages.Layout.{LaidMessage, AreLaidOut}
use Rattle.udt_laws.proofs.laid_messages.LayoutLemmas.{Covers, lies-from, one-message, first-covered}
use Rattle.udt_laws.proofs.laid_messages.PlacedBlocks.{above-first, one-block, taken-contained}
use Rattle.udt_laws.proofs.laid_messages.ConsumedOffsets.{IsConsumed, cases_consumed}
use Rattle.udt_laws.proofs.laid_messages.ReceivedLayout.{IsOfLayout, GoesOn, reads-message, reads-offset}
use Rattle.udt_laws.proofs.laid_messages.WholeMessages.{IsSliceOf, first-part, slice-of, readable-laid}

-- ---- what was read

-- a message of the layout was read: none of it was consumed, all is now, and so is each ordered one before it, where it must
-- be delivered in order
pub record IsReadAs (payload : ℕ) (messages : List LaidMessage) (b after : ReceiveBlocks) (m : WholeMessage) : Type 0 where
  pub laid : LaidMessage
  pub among : Contains messages laid
  pub at : laid.message.first ≡ m.first
  pub bytes : m.bytes ≡ laid.bytes
  pub goes : GoesOn payload messages b after
  pub unread : IsConsumed b m.first → ⊥
  pub consumed : IsConsumed after m.first
  pub before : laid.message.order ≡ true → (other : LaidMessage) → Contains messages other → other.message.order ≡ true
      → other.message.first ≤ m.first → IsConsumed after other.message.first

-- ---- what would be readable

-- an unread block stands at this offset
record HasUnread (b : ReceiveBlocks) (offset : ℕ) : Type 0 where
  block : PlacedBlock
  among : Contains b.placed block
  at : block.offset ≡ offset
  unread : block.consumed ≡ false

-- all blocks of a message from an offset on are parts of it
record HasParts (b : ReceiveBlocks) (laid : LaidMessage) (offset : ℕ) : Type 0 where
  block : PlacedBlock
  others : List PlacedBlock
  parts : AreParts b offset laid.message.number (block ∷ others)
  flagged : block.flags ≡ flags_at laid.message offset

module _ (payload start : ℕ) (messages : List LaidMessage) (some : 1 ≤ payload) (lie : AreLaidOut payload start messages)
    (b : ReceiveBlocks) (kept : IsOfLayout payload messages b) where
  -- an offset that is taken, and not consumed, has an unread block
  taken-unread : (offset : ℕ) → is_taken offset b.placed ≡ true → (IsConsumed b offset → ⊥) → HasUnread b offset
  taken-unread offset taken none =
      let found = taken-contained b.placed offset taken in
      record {
        block = found.block;
        among = found.among;
        at = found.at;
        unread = elim (cases_Bool found.block.consumed) [
          | inl is ↦ absurd (none (inr (record { block = found.block; among = found.among; at = found.at; consumed = is })))
          | inr unread ↦ unread
        ];
      }

  -- it is a part of its message
  unread-part : (laid : LaidMessage) (offset : ℕ) (has : HasUnread b offset) → IsSliceOf payload laid offset has.block
      → IsPartOf b offset laid.message.number has.block
  unread-part laid offset has slice =
      record { among = has.among; at = has.at; unread = has.unread; numbered = ap (λ (x : Flags). x.message) slice.flagged }

  -- where all blocks from an offset on are unread, they are parts of their message
  unread-parts : (laid : LaidMessage) (count offset : ℕ) → Contains messages laid → laid.message.first ≤ offset → offset + count ≡ laid.message.last
      → ((n : ℕ) → Covers laid n → HasUnread b n) → HasParts b laid offset
  unread-parts laid zero offset among low ends unread =
      let covers : Covers laid offset = record { from = low; to = omega (arith, ends) } in
      let has = unread offset covers in
      let slice = slice-of payload start messages some lie b kept laid offset has.block among covers has.among has.at has.unread in
      record {
        block = has.block;
        others = [];
        parts = (unread-part laid offset has slice, ap (λ (x : Flags). x.last) slice.flagged ∙ eq-eqb offset laid.message.last (omega (arith, ends)));
        flagged = slice.flagged;
      }
  unread-parts laid (suc count) offset among low ends unread =
      let covers : Covers laid offset = record { from = low; to = omega (arith, ends) } in
      let has = unread offset covers in
      let slice = slice-of payload start messages some lie b kept laid offset has.block among covers has.among has.at has.unread in
      let rest = unread-parts laid count (offset + 1) among (omega (arith, low)) (omega (arith, ends)) unread in
      record {
        block = has.block;
        others = rest.block ∷ rest.others;
        parts = (
          unread-part laid offset has slice,
          ap (λ (x : Flags). x.last) slice.flagged ∙ ne_eqb offset laid.message.last (λ same. omega (arith, ends, same)),
          rest.parts,
        );
        flagged = slice.flagged;
      }

  -- a message of which all offsets are unread, and each before it taken, is readable
  unread-readable : (laid : LaidMessage) → Contains messages laid → ((n : ℕ) → Covers laid n → HasUnread b n)
      → ((n : ℕ) → b.base ≤ n → n < laid.message.first → is_taken n b.placed ≡ true)
      → (m : WholeMessage) × (m.first ≡ laid.message.first) × IsReadable b m
  unread-readable laid among unread taken =
      let covers = first-covered payload some start laid (lies-from payload some start messages laid lie among) in
      let has = unread-parts laid (laid.message.last - laid.message.first) laid.message.first among (omega arith) (omega (arith, covers.to)) unread in
      let blocks = has.block ∷ has.others in (
        record { first = laid.message.first; count = length blocks; bytes = concat (map (λ (block : PlacedBlock). block.bytes) blocks) },
        refl,
        record {
          first = has.block;
          others = has.others;
          parts = subst (λ (n : ℕ). AreParts b laid.message.first n (has.block ∷ has.others)) (sym (ap (λ (x : Flags). x.message) has.flagged)) has.parts;
          begins = ap (λ (x : Flags). x.first) has.flagged ∙ eq-eqb laid.message.first laid.message.first refl;
          in_order = λ ordered n low high. taken n low high;
          count = refl;
          joined = refl;
        },
      )

  -- ---- reading

  -- before an ordered message that is read next each ordered one is consumed
  ordered-before : (m : WholeMessage) (next : IsNextMessage b (Some m)) (laid other : LaidMessage) → Contains messages laid
      → laid.message.first ≡ m.first → next.0.first.flags.order ≡ true → Contains messages other → other.message.first < m.first
      → (IsConsumed b other.message.first → ⊥) → ⊥
  ordered-before m next laid other among at ordered among_too less none =
      let unread : (n : ℕ) → Covers other n → IsConsumed b n → ⊥ = λ n covers is. none (kept.begun other n among_too covers is) in
      let above : (n : ℕ) → Covers other n → b.base ≤ n = λ n covers. elim (cases_lt n b.base) [
        | inl below ↦ absurd (unread n covers (inl below))
        | inr above ↦ above
      ] in
      let ends : other.message.last < m.first = elim (cases_lt other.message.last m.first) [
        | inl before ↦ before
        | inr past ↦
            let own = first-covered payload some start laid (lies-from payload some start messages laid lie among) in
            let shares : Covers other laid.message.first = record { from = omega (arith, at, less); to = omega (arith, at, past) } in
            let same = one-message payload some start messages other laid laid.message.first lie among_too among shares own in
            absurd (omega (arith, ap (λ (x : LaidMessage). x.message.first) same, at, less))
      ] in
      let found = unread-readable other among_too
      (λ n covers. taken-unread n (next.0.in_order ordered n (above n covers) (omega (arith, covers.to, ends))) (unread n covers))
      (λ n low high. next.0.in_order ordered n low (omega (arith, high, less))) in
      omega (arith, next.1 found.0 found.2, found.1, less)

  -- the first block of what is readable is not consumed
  readable-unread : (m : WholeMessage) → IsReadable b m → IsConsumed b m.first → ⊥
  readable-unread m readable (inl below) =
      let part = first-part b m.first readable.first.flags.message readable.first readable.others readable.parts in
      omega (arith, above-first b.base b.placed readable.first kept.rising part.among, part.at, below)
  readable-unread m readable (inr has) =
      let part = first-part b m.first readable.first.flags.message readable.first readable.others readable.parts in
      let same = one-block b.base b.placed has.block readable.first kept.rising has.among part.among (has.at ∙ sym part.at) in
      true≢false (sym has.consumed ∙ ap (λ (x : PlacedBlock). x.consumed) same ∙ part.unread)

  -- reading the next message
  reads-by : (m : WholeMessage) → IsNextMessage b (Some m) → IsReadAs payload messages b (after_message b m) m
  reads-by m next =
      let readable = next.0 in
      let part = first-part b m.first readable.first.flags.message readable.first readable.others readable.parts in
      let low = above-first b.base b.placed readable.first kept.rising part.among in
      let found = readable-laid payload start messages some lie b kept m readable in
      let goes = reads-message payload start messages some lie b kept m.first m.count found.laid found.among (omega (arith, low, part.at)) found.at found.ends in
      let now = reads-offset payload start messages some lie b kept m.first m.count m.first (omega (arith, low, part.at)) (omega arith)
      (omega (arith, readable.count)) in
      record {
        laid = found.laid;
        among = found.among;
        at = found.at;
        bytes = found.bytes;
        goes = goes;
        unread = readable-unread m readable;
        consumed = now;
        before = λ ordered other among ordered_too low. elim (cases_consumed b other.message.first) [
          | inl was ↦ goes.keeps other.message.first was
          | inr none ↦ elim (cases_lt other.message.first m.first) [
            | inl less ↦ absurd (ordered-before m next found.laid other found.among found.at
                (ap (λ (x : Flags). x.order) found.flagged ∙ ordered) among less none)
            | inr least ↦ subst (IsConsumed (after_message b m)) (omega (arith, low, least)) now
          ]
        ];
      }

  -- the message that is read next is one of the layout
  pub reads-next : (m : WholeMessage) → next_message b ≡ Some m → IsReadAs payload messages b (after_message b m) m
  reads-next m is = reads-by m (subst (IsNextMessage b) is (next_message-is b kept.rising))
