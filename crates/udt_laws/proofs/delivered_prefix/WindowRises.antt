-- Where the receiving half of a stream stands, over events: its base never falls, its placed blocks lie below the greatest offset that
-- arrived, and that stays at most where all that it places lies below.
use Rattle.std.proofs.Common.{◌≡◌, ℕ, ◌+◌, ◌<◌, ◌≤◌, List, Some, None, Ok, refl, subst, arith}
use Rattle.std.specs.Prelude.{Option, nat_lt, if◌then◌else◌}
use Rattle.std.proofs.Common.{true, false}
use Rattle.udt_model.specs.declared.addresses.Addr.{Addr}
use Rattle.udt_model.specs.declared.answers.Placed.{Placed}
use Rattle.udt_model.specs.declared.answers.Placed.TheVariants as placing
use Rattle.udt_model.specs.declared.packets.Flags.{Flags}
use Rattle.udt_model.specs.declared.packets.Kind.TheVariants.{Stream}
use Rattle.udt_model.specs.declared.sockets.SentAck.{SentAck}
use Rattle.udt_model.specs.Events.{Act, Arrive, Event}
use Rattle.udt_model.specs.Losses.{report, after_report}
use Rattle.udt_model.specs.Numbers.{near}
use Rattle.udt_model.specs.Rate.{Ways}
use Rattle.udt_model.specs.ReceiveBlocks.{ReceiveBlocks, PlacedBlock, placing_of, arrived_at, after_placing_of, after_place}
use Rattle.udt_model.specs.ReceiveHalf.{Receiving, measured, offset_of, placing_at, with_new, after_placing, after_block, after_receive}
use Rattle.udt_model.specs.ReceiveReports.{nak_words, AckOutcome, IsEarly, IsKnown, EmitsAck, ack_outcome, after_ack_outcome, after_ack_timer, after_nak_timer, confirmed_by, after_ack2}
use Rattle.udt_model.specs.State.{State}
use Rattle.udt_model.specs.Step.{step}
use Rattle.udt_model.specs.Timing.{RoundTrip, period_of, last_under}
use Rattle.udt_model.specs.Wire.{Block, read}
use Rattle.udt_model.proofs.FrontLemmas.{AreBelow, AreBelow-higher, beginning-within}
use Rattle.udt_model.proofs.ReceivingLemmas.{placing-new, offset_of-some, AllPlaced-put_block}
use Rattle.udt_model.proofs.ReceivingSteps.{receiving-shows}
use Rattle.udt_laws.proofs.delivered_is_carried.DeliversPlacedBlocks.{MeetsAct}

-- the half stands between these offsets
pub record IsWithin (low high : ℕ) (r : Receiving) : Type 0 where
  pub not_below : low ≤ r.blocks.base
  pub base : r.blocks.base ≤ r.top
  pub placed : AreBelow r.top r.blocks.placed
  pub not_above : r.top ≤ high

module _ (low high : ℕ) where
  read-within : (r : Receiving) (count : ℕ) → IsWithin low high r → IsWithin low high (after_receive r count)
  read-within r count within =
      let front = beginning-within r.top r.blocks.base (r.blocks.given + count) r.blocks.placed within.base within.placed in
      record { not_below = omega (arith, within.not_below, front.not_below); base = front.not_above; placed = front.below; not_above = within.not_above }

  -- what is placed lies below this, with a block put at its offset
  put-below : (b : ReceiveBlocks) (offset top : ℕ) (flags : Flags) (bytes : List ℕ) (p : Placed) → placing_of b offset ≡ p → offset < top
      → AreBelow top b.placed → AreBelow top (after_placing_of b (arrived_at offset flags bytes) p).placed
  put-below b offset top flags bytes placing.New is less below =
      AllPlaced-put_block (λ n payload. n < top) (arrived_at offset flags bytes) b.placed less (placing-new b offset is).apart below
  put-below b offset top flags bytes placing.Below is less below = below
  put-below b offset top flags bytes placing.Above is less below = below
  put-below b offset top flags bytes placing.Double is less below = below

  pub put-base : (b : ReceiveBlocks) (block : PlacedBlock) (p : Placed) → (after_placing_of b block p).base ≡ b.base
  put-base b block placing.New = refl
  put-base b block placing.Below = refl
  put-base b block placing.Above = refl
  put-base b block placing.Double = refl

  new-within : (r : Receiving) (now : ℕ) (flags : Flags) (bytes : List ℕ) (offset : ℕ) → offset < high → IsWithin low high r
      → IsWithin low high (with_new r now flags bytes offset)
  unfolding after_place
  new-within r now flags bytes offset less within =
      let top = (with_new r now flags bytes offset).top in
      let same = put-base r.blocks (arrived_at offset flags bytes) (placing_of r.blocks offset) in
      record {
        not_below = omega (arith, within.not_below, same);
        base = omega (arith, within.base, same);
        placed = put-below r.blocks offset top flags bytes (placing_of r.blocks offset) refl (omega arith)
            (AreBelow-higher r.top top r.blocks.placed (omega arith) within.placed);
        not_above = omega (arith, within.not_above, less);
      }

  placing-within : (r : Receiving) (now : ℕ) (flags : Flags) (bytes : List ℕ) (offset : Option ℕ) (p : Placed)
      → ((n : ℕ) → offset ≡ Some n → n < high) → IsWithin low high r → IsWithin low high (after_placing r now flags bytes offset p)
  placing-within r now flags bytes (Some offset) placing.New below within = new-within r now flags bytes offset (below offset refl) within
  placing-within r now flags bytes (Some offset) placing.Below below within = within
  placing-within r now flags bytes (Some offset) placing.Above below within = within
  placing-within r now flags bytes (Some offset) placing.Double below within = within
  placing-within r now flags bytes None placing.New below within = within
  placing-within r now flags bytes None placing.Below below within = within
  placing-within r now flags bytes None placing.Above below within = within
  placing-within r now flags bytes None placing.Double below within = within

  pub block-within : (r : Receiving) (now number : ℕ) (flags : Flags) (bytes : List ℕ)
      → ((offset : ℕ) → near r.isn r.top number ≡ Some offset → offset < high) → IsWithin low high r
      → IsWithin low high (after_block r now number flags bytes)
  unfolding after_block
  block-within r now number flags bytes below within =
      placing-within (measured r now number) now flags bytes (offset_of r number) (placing_at r (offset_of r number))
      (λ offset found. below offset (offset_of-some r number offset found).is_near)
      (record { not_below = within.not_below; base = within.base; placed = within.placed; not_above = within.not_above })

  tell-within : (r : Receiving) (now : ℕ) (t : AckOutcome) → IsWithin low high r → IsWithin low high (after_ack_outcome r now t)
  tell-within r now IsEarly within = within
  tell-within r now IsKnown within =
      record { not_below = within.not_below; base = within.base; placed = within.placed; not_above = within.not_above }
  tell-within r now (EmitsAck ack) within =
      record { not_below = within.not_below; base = within.base; placed = within.placed; not_above = within.not_above }

  timer-within : (r : Receiving) (now : ℕ) (known : RoundTrip) → IsWithin low high r → IsWithin low high (after_nak_timer r now known)
  unfolding after_nak_timer
  timer-within r now known within =
      elim (nat_lt now r.nak_due) as (λ early. IsWithin low high (
      if early
      then r
      else record r { missing = after_report now (report now known.rtt (nak_words r) r.missing) r.missing; nak_due = now + period_of known })) [
        | true ↦ within
        | false ↦ record { not_below = within.not_below; base = within.base; placed = within.placed; not_above = within.not_above }
      ]

  confirmed-within : (r : Receiving) (number : ℕ) (found : Option SentAck) → IsWithin low high r → IsWithin low high (confirmed_by r number found)
  confirmed-within r number None within = within
  confirmed-within r number (Some ack) within =
      record { not_below = within.not_below; base = within.base; placed = within.placed; not_above = within.not_above }

  reports-within : (r : Receiving) (now : ℕ) (known : RoundTrip) → IsWithin low high r
      → IsWithin low high (after_nak_timer (after_ack_timer r now known) now known)
  unfolding after_ack_timer
  reports-within r now known within = timer-within _ now known (tell-within r now (ack_outcome r now known) within)

  ack2-within : (r : Receiving) (number : ℕ) → IsWithin low high r → IsWithin low high (after_ack2 r number)
  unfolding after_ack2
  ack2-within r number within = confirmed-within r number (last_under number r.history) within

module _ {C : Type 0} (w : Ways C) where
  -- what an act that meets this gives, meets it
  pub carries-below : (high : ℕ) (s : State C) (act : Act) (from : Addr) (raw : List ℕ) (number : ℕ) (flags : Flags) (stamp : ℕ) (bytes : List ℕ)
      → MeetsAct (λ offset payload. offset < high) s act → act ≡ Arrive from raw → from ≡ s.peer.addr
      → read raw ≡ Ok (Block number flags stamp s.own bytes) → (offset : ℕ) → near s.receiving.isn s.receiving.top number ≡ Some offset
      → offset < high
  carries-below high s act from raw number flags stamp bytes below is sender reads offset is_near =
      let meets = subst (MeetsAct (λ offset payload. offset < high) s) is below in
      meets number flags stamp bytes offset sender reads is_near

  pub step-within : (low high : ℕ) (s : State C) (event : Event) → s.kind ≡ Stream → MeetsAct (λ offset payload. offset < high) s event.act
      → IsWithin low high s.receiving → IsWithin low high (step w s event).after.receiving
  step-within low high s event stream below within = receiving-shows w s event (IsWithin low high) (record {
    stays = within;
    reads = λ room streams. read-within low high s.receiving _ within;
    carries = λ now from raw number flags stamp bytes is sender reads. block-within low high s.receiving now number flags bytes
        (carries-below high s event.act from raw number flags stamp bytes below is sender reads) within;
    shows = λ room messages. absurd (cc);
    drops = λ now from raw message stamp first last range is sender reads messages taken. absurd (cc);
    tells = λ now known. reports-within low high s.receiving now known within;
    confirms = λ number. ack2-within low high s.receiving number within;
    links = λ now peer unsettled.
        record { not_below = within.not_below; base = within.base; placed = within.placed; not_above = within.not_above };
  })
