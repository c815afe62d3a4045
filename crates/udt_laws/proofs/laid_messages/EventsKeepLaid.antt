-- The messages that events of a socket accept lie one after another, and the kept blocks are theirs.
use Rattle.std.proofs.Common.{◌≡◌, ℕ, zero, suc, ◌-◌, ◌≤◌, Bool, true, false, List, [], ◌∷◌, ◌++◌, length, take, Ok, Err, refl, ap, ◌∙◌, sym, subst, arith}
use Rattle.std.specs.Prelude.{Option, Result, nat_lt, if◌then◌else◌}
use Rattle.std.proofs.lemmas.Bool.{cases_Bool}
use Rattle.std.proofs.lemmas.List.{append_assoc, append-nil, take_all}
use Rattle.udt_model.specs.Phases.{Link, Stands, Lost, Absent, link_of}
use Rattle.udt_model.specs.declared.answers.SendNo.{SendNo}
use Rattle.udt_model.specs.declared.answers.SendNo.TheVariants as no
use Rattle.udt_model.specs.declared.packets.AckBody.{AckBody}
use Rattle.udt_model.specs.declared.packets.AckBody.TheVariants.{Light, Buffer, Full}
use Rattle.udt_model.specs.declared.packets.Kind.{Kind}
use Rattle.udt_model.specs.declared.packets.Kind.TheVariants as kind
use Rattle.udt_model.specs.Calls.{taken_as, send_message_in, send_message_as}
use Rattle.udt_model.specs.Events.{Act, SendMessage, event, Reply, SentMessage, at_moment}
use Rattle.udt_model.specs.History.{Item, after_items, AreLegal}
use Rattle.udt_model.specs.Losses.{LostRange}
use Rattle.udt_model.specs.Rate.{Ways}
use Rattle.udt_model.specs.SendBlocks.{SendBlocks, with_bytes, after_release}
use Rattle.udt_model.specs.SendHalf.{Sending, message_answer, expiry_of, after_answer, after_send_message, Packing, Waits, Retransmits, Drops, Sends, Idles, after_packing}
use Rattle.udt_model.specs.SendReports.{Acking, Acks, acking, acked_number, sampled, released, measured, after_acking, after_ack, entering, after_entering, after_nak, after_timeout}
use Rattle.udt_model.specs.State.{State}
use Rattle.udt_model.specs.Step.{step}
use Rattle.udt_model.specs.Timing.{RoundTrip}
use Rattle.udt_model.specs.Wire.{WireRange}
use Rattle.udt_model.proofs.PhaseLemmas.{is_settled}
use Rattle.udt_model.proofs.SendingLemmas.{IsCut, acking-acks}
use Rattle.udt_model.proofs.SendingSteps.{sending-shows}
use Rattle.udt_model.proofs.StepLemmas.{step-keeps}
use Rattle.udt_laws.proofs.sent_blocks.AcceptedIsCut.{blocks_of, step-cut}
use Rattle.udt_laws.proofs.laid_messages.Layout.{LaidMessage}
use Rattle.udt_laws.proofs.laid_messages.LaidFrom.{laid_by, laid_from}
use Rattle.udt_laws.proofs.laid_messages.KeptMessages.{KeepsLaid, laid_after, with_bytes-laid, released-laid}

-- ---- which blocks an event keeps

-- packing, NAKs and timeouts keep all
module _ {C : Type 0} (w : Ways C) (s : Sending C) where
  packing-blocks : (now : ℕ) (p : Packing) → (after_packing w s now p).blocks ≡ s.blocks
  packing-blocks now (Waits until) = refl
  packing-blocks now (Retransmits offset block) = refl
  packing-blocks now (Drops message) = refl
  packing-blocks now (Sends block) = refl
  packing-blocks now Idles = refl

  entering-blocks : (known : RoundTrip) (ranges : List LostRange) → (after_entering w s known ranges).blocks ≡ s.blocks
  entering-blocks known [] = refl
  entering-blocks known (range ∷ ranges) = refl

  nak-blocks : (known : RoundTrip) (ranges : List WireRange) → (after_nak w s known ranges).blocks ≡ s.blocks
  unfolding after_nak
  nak-blocks known ranges = entering-blocks known (entering s ranges)

  timeout-blocks : (known : RoundTrip) → (after_timeout w s known).blocks ≡ s.blocks
  unfolding after_timeout
  timeout-blocks known = grind (arith, cases_Bool (nat_lt s.blocks.first s.next))

module _ {C : Type 0} (w : Ways C) where
  measured-blocks : (s : Sending C) (known : RoundTrip) (newly : ℕ) (body : AckBody) → (measured w s known newly body).blocks ≡ s.blocks
  measured-blocks s known newly (Light ack) = refl
  measured-blocks s known newly (Buffer ack rtt var buffer) = refl
  measured-blocks s known newly (Full ack rtt var buffer rate capacity) = refl

  -- an ACK releases blocks
  ack-blocks : (s : Sending C) (known : RoundTrip) (body : AckBody) (offset : ℕ) → acking s (acked_number body) ≡ Acks offset
      → (after_ack w s known body).blocks ≡ after_release s.blocks offset
  unfolding after_ack
  ack-blocks s known body offset is =
      ap (λ (a : Acking). (after_acking w s known body a).blocks) is
      ∙ measured-blocks (released s body offset) (sampled known body) (offset - s.blocks.first) body

-- ---- a message that is accepted

-- it is accepted whole
whole-by : (large spent full : Bool) (len n : ℕ)
    → (if large then Err no.TooLarge else (if spent then Err no.Spent else (if full then Err no.Again else Ok len))) ≡ Ok (suc n) → len ≡ suc n
whole-by true spent full len n is = absurd (cc)
whole-by false true full len n is = absurd (cc)
whole-by false false true len n is = absurd (cc)
whole-by false false false len n is = cc

answer-whole : {C : Type 0} (s : Sending C) (len n : ℕ) → message_answer s len ≡ Ok (suc n) → len ≡ suc n
unfolding message_answer
answer-whole s len n is = whole-by _ _ _ len n is

module _ {C : Type 0} (s : Sending C) (start : ℕ) (messages : List LaidMessage) (keeps : KeepsLaid s.blocks start messages) where
  -- no message is added
  none-added : KeepsLaid s.blocks start (messages ++ [])
  none-added = subst (KeepsLaid s.blocks start) (sym (append-nil messages)) keeps

  -- it lies after the others
  answer-laid : (order : Bool) (expires : Option ℕ) (bytes : List ℕ) (n : ℕ) → 1 ≤ s.blocks.payload → length bytes ≡ suc n
      → KeepsLaid (with_bytes s.blocks s.message order expires (take (suc n) bytes)) start
      (messages ++ laid_after s.blocks s.message order expires bytes ∷ [])
  answer-laid order expires bytes n full whole =
      let all = take_all (suc n) bytes (omega (arith, whole)) in
      subst (λ (taken : List ℕ). KeepsLaid (with_bytes s.blocks s.message order expires taken) start
      (messages ++ laid_after s.blocks s.message order expires bytes ∷ [])) (sym all)
      (with_bytes-laid s.blocks start messages keeps s.message order expires bytes full (omega (arith, whole)))

module _ {C : Type 0} (s : State C) (start : ℕ) (messages : List LaidMessage) (full : 1 ≤ s.sending.blocks.payload)
    (keeps : KeepsLaid s.sending.blocks start messages) (ttl : Option ℕ) (order : Bool) (bytes : List ℕ) where
  -- a message that was so answered lies after the others
  answered-keeps : (answer : Result ℕ SendNo) → message_answer s.sending (length bytes) ≡ answer
      → KeepsLaid (after_answer s.sending order (expiry_of s.last ttl) bytes answer).blocks start
      (messages ++ laid_by s (SendMessage ttl order bytes) (SentMessage (taken_as answer)))
  answered-keeps (Ok zero) is = none-added s.sending start messages keeps
  answered-keeps (Ok (suc n)) is =
      answer-laid s.sending start messages keeps order (expiry_of s.last ttl) bytes n full
      (answer-whole s.sending (length bytes) n is)
  answered-keeps (Err why) is = none-added s.sending start messages keeps

  asked-keeps : (link : Link) → KeepsLaid (send_message_in s ttl order bytes link).after.sending.blocks start
      (messages ++ laid_by s (SendMessage ttl order bytes) (send_message_in s ttl order bytes link).reply)
  unfolding after_send_message
  asked-keeps Stands = answered-keeps (message_answer s.sending (length bytes)) refl
  asked-keeps (Lost why) = none-added s.sending start messages keeps
  asked-keeps Absent = none-added s.sending start messages keeps

  asked_as-keeps : (k : Kind) → KeepsLaid (send_message_as s ttl order bytes k).after.sending.blocks start
      (messages ++ laid_by s (SendMessage ttl order bytes) (send_message_as s ttl order bytes k).reply)
  asked_as-keeps kind.Stream = none-added s.sending start messages keeps
  asked_as-keeps kind.Message = asked-keeps (link_of s.phase)

-- ---- all events

module _ {C : Type 0} (w : Ways C) (s : State C) (start : ℕ) (messages : List LaidMessage) (blocks : List (List ℕ))
    (settled : is_settled s.phase ≡ true) (carries : s.kind ≡ kind.Message) (cut : IsCut s.sending start blocks) (keeps : KeepsLaid s.sending.blocks start messages) where
  -- blocks that stay are kept as before
  stay-laid : (b : SendBlocks) → b ≡ s.sending.blocks → KeepsLaid b start messages
  stay-laid b same = subst (λ (c : SendBlocks). KeepsLaid c start messages) (sym same) keeps

  ack-laid : (known : RoundTrip) (body : AckBody) (offset : ℕ) → acking s.sending (acked_number body) ≡ Acks offset
      → KeepsLaid (after_ack w s.sending known body).blocks start messages
  ack-laid known body offset is =
      let acked = acking-acks s.sending (acked_number body) offset is in
      subst (λ (c : SendBlocks). KeepsLaid c start messages) (sym (ack-blocks w s.sending known body offset is))
      (released-laid s.sending.blocks start messages keeps offset acked.not_below (omega (arith, acked.not_above, cut.sent_to)))

  -- an event that asks for no message adds none
  other-keeps : (now : ℕ) (act : Act) → ((ttl : Option ℕ) (order : Bool) (bytes : List ℕ) → act ≡ SendMessage ttl order bytes → ⊥)
      → KeepsLaid (step w s (event now act)).after.sending.blocks start (messages ++ [])
  other-keeps now act other =
      subst (KeepsLaid (step w s (event now act)).after.sending.blocks start) (sym (append-nil messages))
      (sending-shows w s (event now act) (λ sending. KeepsLaid sending.blocks start messages) (record {
        stays = keeps;
        sends = λ bytes is streams connected. absurd (cc);
        asks = λ moment ttl order bytes is asks connected. absurd (other ttl order bytes is);
        packs = λ moment p is. stay-laid _ (packing-blocks w s.sending moment p);
        acknowledges = λ from raw number stamp body offset is sender reads acks. ack-laid s.rtt body offset acks;
        reports = λ ranges. stay-laid _ (nak-blocks w s.sending s.rtt ranges);
        times_out = stay-laid _ (timeout-blocks w s.sending s.rtt);
        links = λ peer unsettled. absurd (cc);
      }))

  -- each event adds the message that it accepts
  act-keeps : (now : ℕ) (act : Act) → KeepsLaid (step w s (event now act)).after.sending.blocks start
      (messages ++ laid_by (at_moment s now) act (step w s (event now act)).reply)
  unfolding step
  act-keeps now (SendMessage ttl order bytes) =
      asked_as-keeps (at_moment s now) start messages cut.payload keeps ttl order bytes s.kind
  act-keeps now act = other-keeps now act (λ ttl order bytes is. cc)

module _ {C : Type 0} (w : Ways C) where
  -- after all items the messages that they accepted lie after the others
  pub items-keep : (s : State C) (start : ℕ) (messages : List LaidMessage) (blocks : List (List ℕ)) (items : List Item) → is_settled s.phase ≡ true → AreLegal w s items
      → s.kind ≡ kind.Message → IsCut s.sending start blocks → KeepsLaid s.sending.blocks start messages
      → KeepsLaid (after_items w s items).sending.blocks start (messages ++ laid_from w s items)
  unfolding after_items laid_from AreLegal
  items-keep s start messages blocks [] settled legal carries cut keeps = none-added s.sending start messages keeps
  items-keep s start messages blocks (item ∷ items) settled legal carries cut keeps =
      let next = (step w s item.event).after in
      let same = step-keeps w s item.event settled in
      let one = laid_by (at_moment s item.event.now) item.event.act in
      let added = subst (λ (reply : Reply). KeepsLaid next.sending.blocks start (messages ++ one reply)) (sym legal.0)
      (act-keeps w s start messages blocks settled carries cut keeps item.event.now item.event.act) in
      let all = items-keep next start (messages ++ one item.reply) (blocks ++ blocks_of s item.event) items
      (same.settled settled) legal.2 (same.kind ∙ carries) (step-cut w start blocks s item.event settled cut) added in
      subst (KeepsLaid (after_items w next items).sending.blocks start) (append_assoc messages (one item.reply) (laid_from w next items)) all
