-- A half that was given a control keeps one, so a state without one had no connection before, and its halves were idle.
use Rattle.std.proofs.Common.{◌≡◌, ℕ, zero, suc, Bool, true, false, List, [], ◌∷◌, ◌++◌, Ok, Err, refl, ap, sym, inl, inr}
use Rattle.std.specs.Prelude.{Result, Option, Some, None, length, nat_lt, if◌then◌else◌, option_map}
use Rattle.udt_model.specs.declared.answers.SendNo.{SendNo}
use Rattle.udt_model.specs.declared.packets.AckBody.{AckBody}
use Rattle.udt_model.specs.declared.packets.AckBody.TheVariants.{Light, Buffer, Full}
use Rattle.udt_model.specs.declared.packets.Config.{Config}
use Rattle.udt_model.specs.Events.{Event, Outcome}
use Rattle.udt_model.specs.History.{Item, after_items}
use Rattle.udt_model.specs.Losses.{LostRange}
use Rattle.udt_model.specs.Rate.{Ways}
use Rattle.udt_model.specs.ReceiveHalf.{Receiving}
use Rattle.udt_model.specs.SendHalf.{Sending, send_answer, message_answer, expiry_of, after_answer, after_send}
use Rattle.udt_model.specs.SendHalf.{after_send_message, acked_of}
use Rattle.udt_model.specs.SendHalf.{Packing, Waits, Retransmits, Drops, Sends, Idles, after_packing}
use Rattle.udt_model.specs.SendReports.{Acking, Acks, IsStale, acking, acked_number, sampled, released, measured, after_acking}
use Rattle.udt_model.specs.SendReports.{after_ack, entering, after_entering, after_nak, after_timeout}
use Rattle.udt_model.specs.State.{State}
use Rattle.udt_model.specs.Step.{step}
use Rattle.udt_model.specs.Timing.{RoundTrip}
use Rattle.udt_model.specs.Wire.{WireRange}
use Rattle.udt_model.proofs.SendingSteps.{sending-shows}
use Rattle.udt_model.proofs.SettlingLemmas.{step-begins}
use Rattle.udt_model.proofs.UnlinkedLemmas.{IsUnlinked}

-- where two splits of a list meet: the front of one lies within the first part of the other, or goes on beyond its middle
pub data SplitsMeet {A : Type 0} (front rest first : List A) (middle : A) (last : List A) : Type 0 where
  Within : (more : List A) → first ≡ front ++ more → SplitsMeet front rest first middle last
  Beyond : (more : List A) → front ≡ first ++ middle ∷ more → last ≡ more ++ rest → SplitsMeet front rest first middle last

pub splits-meet : {A : Type 0} (front rest first : List A) (middle : A) (last : List A) → front ++ rest ≡ first ++ middle ∷ last
    → SplitsMeet front rest first middle last
splits-meet [] rest first middle last same = Within first refl
splits-meet (a ∷ front) rest [] middle last same =
    let head : a ≡ middle = cc in
    let tail : front ++ rest ≡ last = cc in
    Beyond front (ap (λ x. x ∷ front) head) (sym tail)
splits-meet (a ∷ front) rest (b ∷ first) middle last same =
    let head : a ≡ b = cc in
    let tail : front ++ rest ≡ first ++ middle ∷ last = cc in
    elim (splits-meet front rest first middle last tail) [
      | Within more is ↦ Within more (let head_is : b ≡ a = sym head in cc)
      | Beyond more is others ↦ Beyond more (cc) others
    ]

module _ {C : Type 0} where
  -- a half that has a control
  abbrev pub IsControlled : Sending C → Type 0
  IsControlled s = s.control ≡ None → ⊥

  map-none : (f : C → C) (control : Option C) → option_map f control ≡ None → control ≡ None
  map-none f None none = refl
  map-none f (Some control) none = absurd (cc)

  answer-controlled : (s : Sending C) (order : Bool) (expires : Option ℕ) (bytes : List ℕ) (answer : Result ℕ SendNo)
      → IsControlled s → IsControlled (after_answer s order expires bytes answer)
  answer-controlled s order expires bytes (Ok zero) has = has
  answer-controlled s order expires bytes (Ok (suc n)) has = has
  answer-controlled s order expires bytes (Err why) has = has

  send-controlled : (s : Sending C) (bytes : List ℕ) → IsControlled s → IsControlled (after_send s bytes)
  unfolding after_send
  send-controlled s bytes has = answer-controlled s false None bytes (send_answer s (length bytes)) has

  send_message-controlled : (s : Sending C) (now : ℕ) (ttl : Option ℕ) (order : Bool) (bytes : List ℕ) → IsControlled s
      → IsControlled (after_send_message s now ttl order bytes)
  unfolding after_send_message
  send_message-controlled s now ttl order bytes has =
      answer-controlled s order (expiry_of now ttl) bytes (message_answer s (length bytes)) has

  either-controlled : (test : Bool) (s t : Sending C) → IsControlled s → IsControlled t → IsControlled (if test then s else t)
  either-controlled true s t first second = first
  either-controlled false s t first second = second

module _ {C : Type 0} (w : Ways C) where
  packing-controlled : (s : Sending C) (now : ℕ) (p : Packing) → IsControlled s → IsControlled (after_packing w s now p)
  packing-controlled s now (Waits until) has = has
  packing-controlled s now (Retransmits offset block) has = has
  packing-controlled s now (Drops message) has = has
  packing-controlled s now (Sends block) has = has
  packing-controlled s now Idles has = has

  measured-controlled : (s : Sending C) (known : RoundTrip) (newly : ℕ) (body : AckBody) → IsControlled s
      → IsControlled (measured w s known newly body)
  measured-controlled s known newly (Light ack) has = has
  measured-controlled s known newly (Buffer ack rtt var buffer) has = has
  measured-controlled s known newly (Full ack rtt var buffer rate capacity) has = λ none. has (map-none _ s.control none)

  acking-controlled : (s : Sending C) (known : RoundTrip) (body : AckBody) (a : Acking) → IsControlled s
      → IsControlled (after_acking w s known body a)
  acking-controlled s known body (Acks offset) has =
      measured-controlled (released s body offset) (sampled known body) _ body has
  acking-controlled s known body IsStale has = has

  ack-controlled : (s : Sending C) (known : RoundTrip) (body : AckBody) → IsControlled s → IsControlled (after_ack w s known body)
  unfolding after_ack
  ack-controlled s known body has = acking-controlled s known body (acking s (acked_number body)) has

  entering-controlled : (s : Sending C) (known : RoundTrip) (ranges : List LostRange) → IsControlled s
      → IsControlled (after_entering w s known ranges)
  entering-controlled s known [] has = has
  entering-controlled s known (range ∷ ranges) has = λ none. has (map-none _ s.control none)

  nak-controlled : (s : Sending C) (known : RoundTrip) (ranges : List WireRange) → IsControlled s
      → IsControlled (after_nak w s known ranges)
  unfolding after_nak
  nak-controlled s known ranges has = entering-controlled s known (entering s ranges) has

  timeout-controlled : (s : Sending C) (known : RoundTrip) → IsControlled s → IsControlled (after_timeout w s known)
  unfolding after_timeout
  timeout-controlled s known has =
      either-controlled (nat_lt (acked_of s) s.next) _ s (λ none. has (map-none _ s.control none)) has

  -- no event takes the control of a half
  step-controlled : (s : State C) (event : Event) → IsControlled s.sending → IsControlled (step w s event).after.sending
  step-controlled s event has = sending-shows w s event (λ sending. IsControlled sending) (record {
    stays = has;
    sends = λ bytes is streams connected. send-controlled s.sending bytes has;
    asks = λ now ttl order bytes is messages connected. send_message-controlled s.sending now ttl order bytes has;
    packs = λ now p is. packing-controlled s.sending now p has;
    acknowledges = λ from raw number stamp body offset is sender reads acks. ack-controlled s.sending s.rtt body has;
    reports = λ ranges. nak-controlled s.sending s.rtt ranges has;
    times_out = timeout-controlled s.sending s.rtt has;
    links = λ peer unsettled none. absurd (cc);
  })

  items-controlled : (s : State C) (items : List Item) → IsControlled s.sending → IsControlled (after_items w s items).sending
  unfolding after_items
  items-controlled s [] has = has
  items-controlled s (item ∷ items) has =
      items-controlled (step w s item.event).after items (step-controlled s item.event has)

  -- a state whose halves are as they were opened
  pub record AreIdle (start : ℕ) (s : State C) : Type 0 where
    pub top : s.receiving.top ≡ start
    pub first : acked_of s.sending ≡ start

  module _ (config : Config) (start : ℕ) where
    -- while no control is given, a state without a connection stays so
    pub front-unlinked : (s : State C) (front more : List Item) → IsUnlinked w config start s
        → (after_items w s (front ++ more)).sending.control ≡ None → IsUnlinked w config start (after_items w s front)
    unfolding after_items
    front-unlinked s [] more unlinked none = unlinked
    front-unlinked s (item ∷ front) more unlinked none = elim (step-begins w config start s item.event unlinked).leads [
      | inl still ↦ front-unlinked (step w s item.event).after front more still none
      | inr linked ↦
          let control = ap (λ (o : Outcome C). o.after.sending.control) linked.outcome_is in
          absurd (items-controlled (step w s item.event).after (front ++ more) (λ lacks. absurd (cc)) none)
    ]

    -- and its halves stay as they were opened
    pub front-idle : (s : State C) (front more : List Item) → IsUnlinked w config start s
        → (after_items w s (front ++ more)).sending.control ≡ None → AreIdle start (after_items w s front)
    front-idle s front more unlinked none =
        let still = front-unlinked s front more unlinked none in
        record {
          top = ap (λ (r : Receiving). r.top) still.receiving;
          first = ap acked_of still.sending;
        }

    pub unlinked-uncontrolled : (s : State C) → IsUnlinked w config start s → s.sending.control ≡ None
    unlinked-uncontrolled s unlinked = ap (λ (sending : Sending C). sending.control) unlinked.sending
