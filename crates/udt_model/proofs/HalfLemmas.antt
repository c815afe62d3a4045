-- What the halves of a socket never change: the initial sequence number, the payload and the blocks.
use Rattle.std.proofs.Common.{◌≡◌, ℕ, zero, suc, Bool, true, false, List, [], ◌∷◌, Ok, Err, refl, ◌∙◌}
use Rattle.std.proofs.Common.{arith, ◌-◌}
use Rattle.std.proofs.lemmas.Bool.{cases_Bool}
use Rattle.std.specs.Prelude.{Result, Option, Some, None, length, ◌==◌, nat_lt, nat_le, if◌then◌else◌}
use Rattle.udt_model.specs.declared.answers.Placed.{Placed}
use Rattle.udt_model.specs.declared.answers.Placed.TheVariants as placing
use Rattle.udt_model.specs.declared.answers.SendNo.{SendNo}
use Rattle.udt_model.specs.declared.packets.AckBody.{AckBody}
use Rattle.udt_model.specs.declared.packets.AckBody.TheVariants.{Light, Buffer, Full}
use Rattle.udt_model.specs.declared.packets.Flags.{Flags}
use Rattle.udt_model.specs.declared.sockets.SentAck.{SentAck}
use Rattle.udt_model.specs.Losses.{LostRange}
use Rattle.udt_model.specs.Rate.{Ways}
use Rattle.udt_model.specs.ReceiveBlocks.{ReceiveBlocks, PlacedBlock, WholeMessage, placing_of, arrived_at, after_placing_of, after_place, next_message, after_found, after_read_message}
use Rattle.udt_model.specs.ReceiveHalf.{Receiving, measured as measured_arrival, offset_of, placing_at, after_placing, after_block, with_taken, after_receive, after_receive_message}
use Rattle.udt_model.specs.ReceiveReports.{AckOutcome, IsEarly, IsKnown, EmitsAck, ack_outcome, after_ack_outcome, after_ack_timer, confirmed_by, after_ack2, after_nak_timer}
use Rattle.udt_model.specs.SendHalf.{Sending, send_answer, message_answer, expiry_of, after_answer, after_send, after_send_message, Packing, Waits, Retransmits, Drops, Sends, Idles, after_packing}
use Rattle.udt_model.specs.SendReports.{Acking, Acks, IsStale, acking, acked_number, sampled, released, measured, after_acking, after_ack, entering, after_entering, after_nak, after_timeout}
use Rattle.udt_model.specs.Timing.{RoundTrip, last_under}
use Rattle.udt_model.specs.Wire.{WireRange}

pub record KeepsReceiving (s t : Receiving) : Type 0 where
  pub isn : t.isn ≡ s.isn
  pub payload : t.payload ≡ s.payload
  pub capacity : t.blocks.capacity ≡ s.blocks.capacity

pub same_receiving : (r : Receiving) → KeepsReceiving r r
same_receiving r = record { isn = refl; payload = refl; capacity = refl }

pub receiving_on : (s t u : Receiving) → KeepsReceiving s t → KeepsReceiving t u → KeepsReceiving s u
receiving_on s t u first second = record {
  isn = second.isn ∙ first.isn;
  payload = second.payload ∙ first.payload;
  capacity = second.capacity ∙ first.capacity;
}

module _ {C : Type 0} where
  pub record KeepsSending (s t : Sending C) : Type 0 where
    pub isn : t.isn ≡ s.isn
    pub payload : t.blocks.payload ≡ s.blocks.payload
    pub blocks : t.blocks.blocks ≡ s.blocks.blocks

  pub same_sending : (s : Sending C) → KeepsSending s s
  same_sending s = record { isn = refl; payload = refl; blocks = refl }

  pub sending_on : (s t u : Sending C) → KeepsSending s t → KeepsSending t u → KeepsSending s u
  sending_on s t u first second = record {
    isn = second.isn ∙ first.isn;
    payload = second.payload ∙ first.payload;
    blocks = second.blocks ∙ first.blocks;
  }

  -- ---- the sending half

  answer-keeps : (s : Sending C) (order : Bool) (expires : Option ℕ) (bytes : List ℕ) (answer : Result ℕ SendNo)
      → KeepsSending s (after_answer s order expires bytes answer)
  answer-keeps s order expires bytes (Ok zero) = record { isn = refl; payload = refl; blocks = refl }
  answer-keeps s order expires bytes (Ok (suc n)) = record { isn = refl; payload = refl; blocks = refl }
  answer-keeps s order expires bytes (Err why) = record { isn = refl; payload = refl; blocks = refl }

  pub after_send-keeps : (s : Sending C) (bytes : List ℕ) → KeepsSending s (after_send s bytes)
  unfolding after_send
  after_send-keeps s bytes = answer-keeps s false None bytes (send_answer s (length bytes))

  pub after_send_message-keeps : (s : Sending C) (now : ℕ) (ttl : Option ℕ) (order : Bool) (bytes : List ℕ)
      → KeepsSending s (after_send_message s now ttl order bytes)
  unfolding after_send_message
  after_send_message-keeps s now ttl order bytes = answer-keeps s order (expiry_of now ttl) bytes (message_answer s (length bytes))

module _ {C : Type 0} (w : Ways C) where
  pub packing-keeps : (s : Sending C) (now : ℕ) (p : Packing) → KeepsSending s (after_packing w s now p)
  packing-keeps s now (Waits until) = record { isn = refl; payload = refl; blocks = refl }
  packing-keeps s now (Retransmits offset block) = record { isn = refl; payload = refl; blocks = refl }
  packing-keeps s now (Drops message) = record { isn = refl; payload = refl; blocks = refl }
  packing-keeps s now (Sends block) = record { isn = refl; payload = refl; blocks = refl }
  packing-keeps s now Idles = record { isn = refl; payload = refl; blocks = refl }

  measured-keeps : (s : Sending C) (known : RoundTrip) (newly : ℕ) (body : AckBody) → KeepsSending s (measured w s known newly body)
  measured-keeps s known newly (Light ack) = same_sending s
  measured-keeps s known newly (Buffer ack rtt var buffer) = same_sending s
  measured-keeps s known newly (Full ack rtt var buffer rate capacity) = record { isn = refl; payload = refl; blocks = refl }

  acking-keeps : (s : Sending C) (known : RoundTrip) (body : AckBody) (a : Acking) → KeepsSending s (after_acking w s known body a)
  acking-keeps s known body (Acks offset) =
      sending_on s (released s body offset) _ (record { isn = refl; payload = refl; blocks = refl })
      (measured-keeps (released s body offset) (sampled known body) (offset - s.blocks.first) body)
  acking-keeps s known body IsStale = same_sending s

  pub after_ack-keeps : (s : Sending C) (known : RoundTrip) (body : AckBody) → KeepsSending s (after_ack w s known body)
  unfolding after_ack
  after_ack-keeps s known body = acking-keeps s known body (acking s (acked_number body))

  entering-keeps : (s : Sending C) (known : RoundTrip) (ranges : List LostRange) → KeepsSending s (after_entering w s known ranges)
  entering-keeps s known [] = same_sending s
  entering-keeps s known (range ∷ ranges) = record { isn = refl; payload = refl; blocks = refl }

  pub after_nak-keeps : (s : Sending C) (known : RoundTrip) (ranges : List WireRange) → KeepsSending s (after_nak w s known ranges)
  unfolding after_nak
  after_nak-keeps s known ranges = entering-keeps s known (entering s ranges)

  pub after_timeout-keeps : (s : Sending C) (known : RoundTrip) → KeepsSending s (after_timeout w s known)
  unfolding after_timeout
  after_timeout-keeps s known = record {
    isn = grind (arith, cases_Bool (nat_lt s.blocks.first s.next));
    payload = grind (arith, cases_Bool (nat_lt s.blocks.first s.next));
    blocks = grind (arith, cases_Bool (nat_lt s.blocks.first s.next));
  }

-- ---- the receiving half

pub after_receive-keeps : (r : Receiving) (count : ℕ) → KeepsReceiving r (after_receive r count)
after_receive-keeps r count = record { isn = refl; payload = refl; capacity = refl }

found-keeps : (b : ReceiveBlocks) (room : ℕ) (found : Option WholeMessage) → (after_found b room found).capacity ≡ b.capacity
found-keeps b room None = refl
found-keeps b room (Some m) = grind (arith, cases_Bool (nat_le (length m.bytes) room))

pub after_receive_message-keeps : (r : Receiving) (room : ℕ) → KeepsReceiving r (after_receive_message r room)
after_receive_message-keeps r room =
    elim (room == 0) as (λ none. KeepsReceiving r (if none then r else record r { blocks = after_read_message r.blocks room })) [
      | true ↦ same_receiving r
      | false ↦ record { isn = refl; payload = refl; capacity = found-keeps r.blocks room (next_message r.blocks) }
    ]

pub with_taken-keeps : (r : Receiving) (now : ℕ) (range : LostRange) → KeepsReceiving r (with_taken r now range)
with_taken-keeps r now range = record { isn = refl; payload = refl; capacity = refl }

placed-keeps : (b : ReceiveBlocks) (block : PlacedBlock) (p : Placed) → (after_placing_of b block p).capacity ≡ b.capacity
placed-keeps b block placing.New = refl
placed-keeps b block placing.Below = refl
placed-keeps b block placing.Above = refl
placed-keeps b block placing.Double = refl

place-keeps : (b : ReceiveBlocks) (offset : ℕ) (flags : Flags) (bytes : List ℕ) → (after_place b offset flags bytes).capacity ≡ b.capacity
unfolding after_place
place-keeps b offset flags bytes = placed-keeps b (arrived_at offset flags bytes) (placing_of b offset)

placing-keeps : (r : Receiving) (now : ℕ) (flags : Flags) (bytes : List ℕ) (offset : Option ℕ) (p : Placed)
    → KeepsReceiving r (after_placing r now flags bytes offset p)
placing-keeps r now flags bytes (Some offset) placing.New =
    record { isn = refl; payload = refl; capacity = place-keeps r.blocks offset flags bytes }
placing-keeps r now flags bytes (Some offset) placing.Below = same_receiving r
placing-keeps r now flags bytes (Some offset) placing.Above = same_receiving r
placing-keeps r now flags bytes (Some offset) placing.Double = same_receiving r
placing-keeps r now flags bytes None placing.New = same_receiving r
placing-keeps r now flags bytes None placing.Below = same_receiving r
placing-keeps r now flags bytes None placing.Above = same_receiving r
placing-keeps r now flags bytes None placing.Double = same_receiving r

pub after_block-keeps : (r : Receiving) (now number : ℕ) (flags : Flags) (bytes : List ℕ) → KeepsReceiving r (after_block r now number flags bytes)
unfolding after_block
after_block-keeps r now number flags bytes =
    receiving_on r (measured_arrival r now number) _ (record { isn = refl; payload = refl; capacity = refl })
    (placing-keeps (measured_arrival r now number) now flags bytes (offset_of r number) (placing_at r (offset_of r number)))

ack_outcome-keeps : (r : Receiving) (now : ℕ) (t : AckOutcome) → KeepsReceiving r (after_ack_outcome r now t)
ack_outcome-keeps r now IsEarly = record { isn = refl; payload = refl; capacity = refl }
ack_outcome-keeps r now IsKnown = record { isn = refl; payload = refl; capacity = refl }
ack_outcome-keeps r now (EmitsAck ack) = record { isn = refl; payload = refl; capacity = refl }

pub after_ack_timer-keeps : (r : Receiving) (now : ℕ) (known : RoundTrip) → KeepsReceiving r (after_ack_timer r now known)
unfolding after_ack_timer
after_ack_timer-keeps r now known = ack_outcome-keeps r now (ack_outcome r now known)

pub after_nak_timer-keeps : (r : Receiving) (now : ℕ) (known : RoundTrip) → KeepsReceiving r (after_nak_timer r now known)
unfolding after_nak_timer
after_nak_timer-keeps r now known = record {
  isn = grind (arith, cases_Bool (nat_lt now r.nak_due));
  payload = grind (arith, cases_Bool (nat_lt now r.nak_due));
  capacity = grind (arith, cases_Bool (nat_lt now r.nak_due));
}

confirmed-keeps : (r : Receiving) (number : ℕ) (found : Option SentAck) → KeepsReceiving r (confirmed_by r number found)
confirmed-keeps r number None = same_receiving r
confirmed-keeps r number (Some ack) = record { isn = refl; payload = refl; capacity = refl }

pub after_ack2-keeps : (r : Receiving) (number : ℕ) → KeepsReceiving r (after_ack2 r number)
unfolding after_ack2
after_ack2-keeps r number = confirmed-keeps r number (last_under number r.history)
