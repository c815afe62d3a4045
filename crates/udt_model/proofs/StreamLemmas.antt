-- No block of a stream expires, so a stream asks for no message to be dropped.
use Rattle.std.proofs.Common.{◌≡◌, ℕ, zero, suc, ◌+◌, false, List, [], ◌∷◌, ◌++◌, length, drop, Some, None, Ok, Err, refl, subst, arith}
use Rattle.std.specs.Prelude.{Option, Result, slice_get, nat_lt}
use Rattle.std.proofs.lemmas.Bool.{cases_Bool}
use Rattle.std.proofs.lemmas.Bool.Decides.{nat_tests}
use Rattle.udt_model.specs.declared.answers.SendNo.{SendNo}
use Rattle.udt_model.specs.declared.packets.AckBody.{AckBody}
use Rattle.udt_model.specs.declared.packets.AckBody.TheVariants.{Light, Buffer, Full}
use Rattle.udt_model.specs.declared.packets.Kind.TheVariants as kind
use Rattle.udt_model.specs.Events.{Event}
use Rattle.udt_model.specs.Losses.{LostRange}
use Rattle.udt_model.specs.Rate.{Ways}
use Rattle.udt_model.specs.SendBlocks.{Message, KeptBlock, blocks_of, kept_at}
use Rattle.udt_model.specs.SendHalf.{Sending, send_answer, after_answer, after_send, Packing, Waits, Retransmits, Drops, Sends, Idles, sends, retransmits, leaves_next, packing, after_packing}
use Rattle.udt_model.specs.SendReports.{Acking, Acks, IsStale, acking, acked_number, sampled, released, measured, after_acking, after_ack, entering, after_entering, after_nak, after_timeout}
use Rattle.udt_model.specs.State.{State}
use Rattle.udt_model.specs.Step.{step}
use Rattle.udt_model.specs.Timing.{RoundTrip}
use Rattle.udt_model.specs.Wire.{WireRange}
use Rattle.udt_model.proofs.SendingLemmas.{kept_at-is}
use Rattle.udt_model.proofs.SendingSteps.{sending-shows}

-- none of these blocks expires
abbrev pub NoneExpires : List KeptBlock → Type 0
NoneExpires [] = Unit {0}
NoneExpires (block ∷ others) = (block.message.expires ≡ None) × NoneExpires others

NoneExpires-append : (kept more : List KeptBlock) → NoneExpires kept → NoneExpires more → NoneExpires (kept ++ more)
NoneExpires-append [] more none next = next
NoneExpires-append (block ∷ others) more none next = (none.0, NoneExpires-append others more none.1 next)

NoneExpires-drop : (n : ℕ) (kept : List KeptBlock) → NoneExpires kept → NoneExpires (drop n kept)
NoneExpires-drop zero kept none = none
NoneExpires-drop (suc n) [] none = tt
NoneExpires-drop (suc n) (block ∷ others) none = NoneExpires-drop n others none.1

NoneExpires-at : (kept : List KeptBlock) (n : ℕ) (block : KeptBlock) → NoneExpires kept → slice_get kept n ≡ Some block
    → block.message.expires ≡ None
NoneExpires-at [] n block none found = absurd (cc)
NoneExpires-at (first ∷ others) zero block none found =
    let is : first ≡ block = cc in
    subst (λ (b : KeptBlock). b.message.expires ≡ None) is none.0
NoneExpires-at (first ∷ others) (suc n) block none found = NoneExpires-at others n block none.1 found

blocks_of-none : (m : Message) (payload offset count : ℕ) (bytes : List ℕ) → m.expires ≡ None
    → NoneExpires (blocks_of m payload offset count bytes)
unfolding blocks_of
blocks_of-none m payload offset zero bytes never = tt
blocks_of-none m payload offset (suc count) bytes never = (never, blocks_of-none m payload (offset + 1) count (drop payload bytes) never)

-- ---- packing

module _ {C : Type 0} (w : Ways C) where
  sends-no_drop : (s : Sending C) (o : Option KeptBlock) (message : Message) → sends w s o ≡ Drops message → ⊥
  sends-no_drop s None message is = cc
  sends-no_drop s (Some first) message is = grind (arith, nat_tests)

  retransmits-no_drop : (now offset : ℕ) (o : Option KeptBlock) (message : Message)
      → ((block : KeptBlock) → o ≡ Some block → block.message.expires ≡ None) → retransmits w now offset o ≡ Drops message → ⊥
  retransmits-no_drop now offset None message never is = cc
  retransmits-no_drop now offset (Some block) message never is =
      let again = rw (never block refl) at is in
      cc

  leaves-no_drop : (s : Sending C) (now : ℕ) (lost : List ℕ) (message : Message) → NoneExpires s.blocks.kept
      → leaves_next w s now lost ≡ Drops message → ⊥
  leaves-no_drop s now [] message none is = sends-no_drop s (kept_at s.blocks s.next) message is
  leaves-no_drop s now (offset ∷ others) message none is =
      retransmits-no_drop now offset (kept_at s.blocks offset) message (λ block found.
      NoneExpires-at s.blocks.kept _ block none (kept_at-is s.blocks offset block found).found) is

  -- where no block expires, no message is dropped
  pub packing-no_drop : (s : Sending C) (now : ℕ) (message : Message) → NoneExpires s.blocks.kept → packing w s now ≡ Drops message → ⊥
  unfolding packing
  packing-no_drop s now message none is =
      let due : leaves_next w s now s.lost ≡ Drops message = grind (arith, nat_tests) in
      leaves-no_drop s now s.lost message none due

  -- ---- what a stream keeps

  answer-none : (s : Sending C) (bytes : List ℕ) (answer : Result ℕ SendNo) → NoneExpires s.blocks.kept
      → NoneExpires (after_answer s false None bytes answer).blocks.kept
  answer-none s bytes (Ok zero) none = none
  answer-none s bytes (Ok (suc n)) none = NoneExpires-append s.blocks.kept _ none (blocks_of-none _ s.blocks.payload _ _ _ refl)
  answer-none s bytes (Err why) none = none

  send-none : (s : Sending C) (bytes : List ℕ) → NoneExpires s.blocks.kept → NoneExpires (after_send s bytes).blocks.kept
  unfolding after_send
  send-none s bytes none = answer-none s bytes (send_answer s (length bytes)) none

  packing-none : (s : Sending C) (now : ℕ) (p : Packing) → NoneExpires s.blocks.kept → NoneExpires (after_packing w s now p).blocks.kept
  packing-none s now (Waits until) none = none
  packing-none s now (Retransmits offset block) none = none
  packing-none s now (Drops message) none = none
  packing-none s now (Sends block) none = none
  packing-none s now Idles none = none

  measured-none : (s : Sending C) (known : RoundTrip) (newly : ℕ) (body : AckBody) → NoneExpires s.blocks.kept
      → NoneExpires (measured w s known newly body).blocks.kept
  measured-none s known newly (Light ack) none = none
  measured-none s known newly (Buffer ack rtt var buffer) none = none
  measured-none s known newly (Full ack rtt var buffer rate capacity) none = none

  acking-none : (s : Sending C) (known : RoundTrip) (body : AckBody) (a : Acking) → NoneExpires s.blocks.kept
      → NoneExpires (after_acking w s known body a).blocks.kept
  acking-none s known body (Acks offset) none =
      measured-none (released s body offset) (sampled known body) _ body (NoneExpires-drop _ s.blocks.kept none)
  acking-none s known body IsStale none = none

  ack-none : (s : Sending C) (known : RoundTrip) (body : AckBody) → NoneExpires s.blocks.kept → NoneExpires (after_ack w s known body).blocks.kept
  unfolding after_ack
  ack-none s known body none = acking-none s known body (acking s (acked_number body)) none

  entering-none : (s : Sending C) (known : RoundTrip) (ranges : List LostRange) → NoneExpires s.blocks.kept
      → NoneExpires (after_entering w s known ranges).blocks.kept
  entering-none s known [] none = none
  entering-none s known (range ∷ ranges) none = none

  nak-none : (s : Sending C) (known : RoundTrip) (ranges : List WireRange) → NoneExpires s.blocks.kept → NoneExpires (after_nak w s known ranges).blocks.kept
  unfolding after_nak
  nak-none s known ranges none = entering-none s known (entering s ranges) none

  timeout-kept : (s : Sending C) (known : RoundTrip) → (after_timeout w s known).blocks ≡ s.blocks
  unfolding after_timeout
  timeout-kept s known = grind (arith, cases_Bool (nat_lt s.blocks.first s.next))

  timeout-none : (s : Sending C) (known : RoundTrip) → NoneExpires s.blocks.kept → NoneExpires (after_timeout w s known).blocks.kept
  timeout-none s known none = rw (timeout-kept s known) none

  -- no block of a stream comes to expire
  pub stream-none_expires : (s : State C) (event : Event) → s.kind ≡ kind.Stream → NoneExpires s.sending.blocks.kept
      → NoneExpires (step w s event).after.sending.blocks.kept
  stream-none_expires s event stream none = sending-shows w s event (λ sending. NoneExpires sending.blocks.kept) (record {
    stays = none;
    sends = λ bytes is streams connected. send-none s.sending bytes none;
    asks = λ now ttl order bytes is messages connected. absurd (cc);
    packs = λ now p is. packing-none s.sending now p none;
    acknowledges = λ from raw number stamp body offset is sender reads acks. ack-none s.sending s.rtt body none;
    reports = λ ranges. nak-none s.sending s.rtt ranges none;
    times_out = timeout-none s.sending s.rtt none;
    links = λ peer unsettled. none;
  })
