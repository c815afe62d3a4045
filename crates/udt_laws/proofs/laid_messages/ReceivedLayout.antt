-- What was received is of the layout: each block that waits is one of it, and no message is consumed in part.
use Rattle.std.proofs.Common.{◌≡◌, ℕ, ◌+◌, ◌-◌, ◌<◌, ◌≤◌, false, List, length, refl, sym, subst, inl, inr, arith}
use Rattle.std.specs.Prelude.{max}
use Rattle.std.specs.List.{Contains}
use Rattle.std.proofs.lemmas.Bool.{cases_lt}
use Rattle.udt_model.specs.declared.packets.Flags.{Flags}
use Rattle.udt_model.specs.ReceiveBlocks.{PlacedBlock, ReceiveBlocks, arrived_at, put_block, after_consuming, after_skip}
use Rattle.udt_model.proofs.InOrder.{IsTakable}
use Rattle.udt_model.proofs.ReceivingLemmas.{AreRising, IsFree}
use Rattle.udt_laws.proofs.laid_messages.Layout.{LaidMessage, AreLaidOut, IsBlockOf, IsRangeOf}
use Rattle.udt_laws.proofs.laid_messages.LayoutLemmas.{Covers, lies-from, one-message, first-covered, slice-some}
use Rattle.udt_laws.proofs.laid_messages.PlacedBlocks.{put-only, put-rising}
use Rattle.udt_laws.proofs.laid_messages.ConsumedOffsets.{IsConsumed, AreWhole, Consumes, put-consumes, put-consumes_only, consuming}

-- no byte is given of the block at the base, the blocks rise from there on, those that aren't consumed are of the layout, and
-- of a message no offset is consumed before its first is
pub record IsOfLayout (payload : ℕ) (messages : List LaidMessage) (b : ReceiveBlocks) : Type 0 where
  pub given : b.given ≡ 0
  pub rising : AreRising b.base b.placed
  pub unread : (block : PlacedBlock) → Contains b.placed block → block.consumed ≡ false
      → IsBlockOf payload messages block.offset block.flags block.bytes
  pub begun : (laid : LaidMessage) (n : ℕ) → Contains messages laid → Covers laid n → IsConsumed b n → IsConsumed b laid.message.first

-- it is so after a step too, and what is consumed stays so
pub record GoesOn (payload : ℕ) (messages : List LaidMessage) (b after : ReceiveBlocks) : Type 0 where
  pub of_layout : IsOfLayout payload messages after
  pub keeps : (n : ℕ) → IsConsumed b n → IsConsumed after n

-- the step that changes nothing
pub goes-nowhere : (payload : ℕ) (messages : List LaidMessage) (b : ReceiveBlocks) → IsOfLayout payload messages b → GoesOn payload messages b b
goes-nowhere payload messages b of_layout = record { of_layout = of_layout; keeps = λ n is. is }

module _ (payload start : ℕ) (messages : List LaidMessage) (some : 1 ≤ payload) (lie : AreLaidOut payload start messages) where
  -- a block of the layout has some bytes
  pub block-some : (offset : ℕ) (flags : Flags) (bytes : List ℕ) → IsBlockOf payload messages offset flags bytes → 1 ≤ length bytes
  block-some offset flags bytes of_layout =
      let covers : Covers of_layout.laid offset = record { from = of_layout.from; to = of_layout.to } in
      let lies = lies-from payload some start messages of_layout.laid lie of_layout.among in
      subst (λ (taken : List ℕ). 1 ≤ length taken) (sym of_layout.carries) (slice-some payload some start of_layout.laid offset lies covers)

  module _ (b : ReceiveBlocks) (kept : IsOfLayout payload messages b) where
    -- so has each of those that wait
    are-whole : AreWhole b
    are-whole = record {
      given = kept.given;
      rising = kept.rising;
      some = λ block there unread. block-some block.offset block.flags block.bytes (kept.unread block there unread);
    }

    -- ---- a new block

    pub places-block : (offset : ℕ) (flags : Flags) (bytes : List ℕ) → IsFree b offset → IsBlockOf payload messages offset flags bytes
        → GoesOn payload messages b (record b { placed = put_block (arrived_at offset flags bytes) b.placed })
    places-block offset flags bytes free of_layout =
        let block = arrived_at offset flags bytes in
        record {
          of_layout = record {
            given = kept.given;
            rising = put-rising b.base block b.placed free.not_below kept.rising;
            unread = λ other there unread. elim (put-only block other b.placed there) [
              | inl own ↦ subst (λ (x : PlacedBlock). IsBlockOf payload messages x.offset x.flags x.bytes) own of_layout
              | inr was ↦ kept.unread other was unread
            ];
            begun = λ laid n among covers is.
                put-consumes b block laid.message.first free.apart refl (kept.begun laid n among covers (put-consumes_only b block n refl is));
          };
          keeps = λ n is. put-consumes b block n free.apart refl is;
        }

    -- ---- consuming a message

    -- all its offsets, and no other ones
    consumes-message : (after : ReceiveBlocks) (from count : ℕ) (laid : LaidMessage) → Contains messages laid → Consumes b after from count
        → ((n : ℕ) → from ≤ n → n < from + count → Covers laid n) → ((n : ℕ) → Covers laid n → IsConsumed after n)
        → GoesOn payload messages b after
    consumes-message after from count laid among consumes within all = record {
      of_layout = record {
        given = consumes.given;
        rising = consumes.rising;
        unread = λ block there unread. kept.unread block (consumes.unread block there unread) unread;
        begun = λ other n among_too covers is. elim (consumes.only n is) [
          | inl was ↦ consumes.keeps other.message.first (kept.begun other n among_too covers was)
          | inr now ↦
              let same = one-message payload some start messages other laid n lie among_too among covers (within n now.0 now.1) in
              let lies = lies-from payload some start messages laid lie among in
              subst (λ (x : LaidMessage). IsConsumed after x.message.first) (sym same)
              (all laid.message.first (first-covered payload some start laid lies))
        ];
      };
      keeps = consumes.keeps;
    }

    -- a message that is read, from its first block to its last
    pub reads-message : (from count : ℕ) (laid : LaidMessage) → Contains messages laid → b.base ≤ from → laid.message.first ≡ from
        → from + count ≡ laid.message.last + 1 → GoesOn payload messages b (after_consuming b from count)
    reads-message from count laid among low begins ends =
        let consumes = consuming b from count low are-whole in
        consumes-message (after_consuming b from count) from count laid among consumes
        (λ n above below. record { from = omega (arith, begins, above); to = omega (arith, below, ends) })
        (λ n covers. consumes.takes n (omega (arith, begins, covers.from)) (omega (arith, covers.to, ends)))

    -- each offset of it is consumed then
    pub reads-offset : (from count n : ℕ) → b.base ≤ from → from ≤ n → n < from + count → IsConsumed (after_consuming b from count) n
    reads-offset from count n low above below = (consuming b from count low are-whole).takes n above below

    -- and one of which a message drop request takes what isn't below the base
    pub skips-message : (first last : ℕ) → IsTakable b first last → IsRangeOf messages first last
        → GoesOn payload messages b (after_skip b first last)
    skips-message first last takes range =
        let from = max first b.base in
        let count = last + 1 - from in
        let consumes = consuming b from count (omega arith) are-whole in
        consumes-message (after_skip b first last) from count range.laid range.among consumes
        (λ n above below. record { from = omega (arith, range.begins, above); to = omega (arith, range.ends, below, takes.not_below, takes.some) })
        (λ n covers. elim (cases_lt n b.base) [
          | inl below ↦ consumes.keeps n (inl below)
          | inr above ↦ consumes.takes n (omega (arith, above, covers.from, range.begins)) (omega (arith, covers.to, range.ends, above, takes.not_below))
        ])
