-- What the data packets of a history name: offsets below the first that was never sent, which on a stream rises by at most
-- one with each event, and by at most one for each datagram.
use Rattle.std.proofs.Common.{◌≡◌, ℕ, zero, suc, ◌+◌, ◌≤◌, Bool, false, List, [], ◌∷◌, length, Ok, Err, refl, ap, ◌∙◌, sym, subst, inl, inr, arith}
use Rattle.std.specs.Prelude.{Result, Option, None, nat_lt}
use Rattle.std.specs.List.{Contains}
use Rattle.std.proofs.lemmas.Bool.{cases_Bool}
use Rattle.std.proofs.lemmas.List.{length-append, length-map}
use Rattle.std.proofs.lemmas.List.Elements.{Contains-push_cases}
use Rattle.udt_model.specs.declared.addresses.Addr.{Addr}
use Rattle.udt_model.specs.Phases.{Phase, Link, Stands, Lost, Absent, link_of}
use Rattle.udt_model.specs.Phases as phase
use Rattle.udt_model.specs.declared.answers.SendNo.{SendNo}
use Rattle.udt_model.specs.declared.packets.Flags.{Flags}
use Rattle.udt_model.specs.declared.packets.Kind.{Kind}
use Rattle.udt_model.specs.declared.packets.Kind.TheVariants as kind
use Rattle.udt_model.specs.declared.sockets.ExpOutcome.{ExpOutcome}
use Rattle.udt_model.specs.declared.sockets.ExpOutcome.TheVariants as exp
use Rattle.udt_model.specs.Arrivals.{on_read}
use Rattle.udt_model.specs.Calls.{send_in, send_as, recv_in, recv_as, send_message_in, send_message_as, recv_message_in, recv_message_as, packed_so, pack_in}
use Rattle.udt_model.specs.Emissions.{sent_by}
use Rattle.udt_model.specs.Connections.{repeats}
use Rattle.udt_model.specs.Events.{Act, Send, Recv, SendMessage, RecvMessage, Pack, Tick, Arrive, Event, Reply, Outcome, outs_of, at_moment}
use Rattle.udt_model.specs.History.{Item, History, after_items, AreLegal}
use Rattle.udt_model.specs.Losses.{LostRange}
use Rattle.udt_model.specs.Rate.{Ways}
use Rattle.udt_model.specs.SendHalf.{Sending, send_answer, message_answer, expiry_of, after_answer, after_send, after_send_message, Packing, Waits, Retransmits, Drops, Sends, Idles, packing}
use Rattle.udt_model.specs.SendReports.{entering, after_entering, after_nak, after_timeout}
use Rattle.udt_model.specs.State.{State, Emission}
use Rattle.udt_model.specs.Step.{on_act, step}
use Rattle.udt_model.specs.Ticks.{exp_outcome, after_exp, after_reports, tick_in}
use Rattle.udt_model.specs.Timing.{RoundTrip}
use Rattle.udt_model.specs.Wire.{WireRange, Block, read}
use Rattle.udt_model.proofs.ArrivalLemmas.{arrival-shows}
use Rattle.udt_model.proofs.EmissionLemmas.{Emitting, NewBlock, LostBlock, DropRequest, FullAck, LightAck, Reports, ReportsGap, ReportsDropGap, AnswersAck, SendsKeepAlive, TheEnd, SendsHandshake}
use Rattle.udt_model.proofs.PhaseLemmas.{repeats-show}
use Rattle.udt_model.proofs.StepLemmas.{step-keeps_name}
use Rattle.udt_model.proofs.StreamLemmas.{NoneExpires, packing-no_drop, stream-none_expires}
use Rattle.udt_model.proofs.SendingLemmas.{IsCut, after_ack-next, packing-again, lost-within}
use Rattle.udt_laws.proofs.sockets.Begins.{Begins, begins_kept}
use Rattle.udt_laws.proofs.sent_blocks.EmissionsRead.{packet_of}

module _ {C : Type 0} where
  -- the first offset never sent rises by at most one, and only with a datagram
  pub record Advances (next : ℕ) (outcome : Outcome C) : Type 0 where
    pub once : outcome.after.sending.next ≤ next + 1
    pub sends : outcome.after.sending.next ≤ next + length outcome.emissions

  answer-next : (s : Sending C) (order : Bool) (expires : Option ℕ) (bytes : List ℕ) (answer : Result ℕ SendNo)
      → (after_answer s order expires bytes answer).next ≡ s.next
  answer-next s order expires bytes (Ok zero) = refl
  answer-next s order expires bytes (Ok (suc n)) = refl
  answer-next s order expires bytes (Err why) = refl

  send-next : (s : Sending C) (bytes : List ℕ) → (after_send s bytes).next ≡ s.next
  unfolding after_send
  send-next s bytes = answer-next s false None bytes (send_answer s (length bytes))

  message-next : (s : Sending C) (now : ℕ) (ttl : Option ℕ) (order : Bool) (bytes : List ℕ) → (after_send_message s now ttl order bytes).next ≡ s.next
  unfolding after_send_message
  message-next s now ttl order bytes = answer-next s order (expiry_of now ttl) bytes (message_answer s (length bytes))

  -- it stays
  stays-next : (s : State C) (outcome : Outcome C) → outcome.after.sending.next ≡ s.sending.next → Advances s.sending.next outcome
  stays-next s outcome same = record { once = omega (arith, same); sends = omega (arith, same) }
  -- ---- the offset of a data packet

-- the one offset that is named
pub only-named : (emission : Emission) (named offset : ℕ) → emission.offsets ≡ named ∷ [] → Contains emission.offsets offset → named ≡ offset
only-named emission named offset names among =
    elim (Contains-push_cases [] named offset (subst (λ (l : List ℕ). Contains l offset) names among)) [
      | inl none ↦ absurd (omega (arith, none.1))
      | inr same ↦ same
    ]

module _ {C : Type 0} (w : Ways C) where
  entering-next : (s : Sending C) (known : RoundTrip) (ranges : List LostRange) → (after_entering w s known ranges).next ≡ s.next
  entering-next s known [] = refl
  entering-next s known (range ∷ ranges) = refl

  nak-next : (s : Sending C) (known : RoundTrip) (ranges : List WireRange) → (after_nak w s known ranges).next ≡ s.next
  unfolding after_nak
  nak-next s known ranges = entering-next s known (entering s ranges)

  timeout-next : (s : Sending C) (known : RoundTrip) → (after_timeout w s known).next ≡ s.next
  unfolding after_timeout
  timeout-next s known = grind (arith, cases_Bool (nat_lt s.blocks.first s.next))

  module _ (s : State C) where
    send-advances : (bytes : List ℕ) (link : Link) → Advances s.sending.next (send_in s bytes link)
    send-advances bytes Stands = stays-next s _ (send-next s.sending bytes)
    send-advances bytes (Lost why) = stays-next s _ refl
    send-advances bytes Absent = stays-next s _ refl

    recv-advances : (room : ℕ) (link : Link) → Advances s.sending.next (recv_in s room link)
    recv-advances room Stands = stays-next s _ refl
    recv-advances room (Lost why) = stays-next s _ refl
    recv-advances room Absent = stays-next s _ refl

    send_as-advances : (bytes : List ℕ) (k : Kind) → Advances s.sending.next (send_as s bytes k)
    send_as-advances bytes kind.Stream = send-advances bytes (link_of s.phase)
    send_as-advances bytes kind.Message = stays-next s _ refl

    recv_as-advances : (room : ℕ) (k : Kind) → Advances s.sending.next (recv_as s room k)
    recv_as-advances room kind.Stream = recv-advances room (link_of s.phase)
    recv_as-advances room kind.Message = stays-next s _ refl

    message-advances : (ttl : Option ℕ) (order : Bool) (bytes : List ℕ) (link : Link)
        → Advances s.sending.next (send_message_in s ttl order bytes link)
    message-advances ttl order bytes Stands = stays-next s _ (message-next s.sending s.last ttl order bytes)
    message-advances ttl order bytes (Lost why) = stays-next s _ refl
    message-advances ttl order bytes Absent = stays-next s _ refl

    message_as-advances : (ttl : Option ℕ) (order : Bool) (bytes : List ℕ) (k : Kind)
        → Advances s.sending.next (send_message_as s ttl order bytes k)
    message_as-advances ttl order bytes kind.Stream = stays-next s _ refl
    message_as-advances ttl order bytes kind.Message = message-advances ttl order bytes (link_of s.phase)

    show-advances : (room : ℕ) (link : Link) → Advances s.sending.next (recv_message_in s room link)
    show-advances room Stands = stays-next s _ refl
    show-advances room (Lost why) = stays-next s _ refl
    show-advances room Absent = stays-next s _ refl

    show_as-advances : (room : ℕ) (k : Kind) → Advances s.sending.next (recv_message_as s room k)
    show_as-advances room kind.Stream = stays-next s _ refl
    show_as-advances room kind.Message = show-advances room (link_of s.phase)

    packed-advances : (p : Packing) → NoneExpires s.sending.blocks.kept → packing w s.sending s.last ≡ p
        → Advances s.sending.next (packed_so w s p)
    packed-advances (Waits until) none is = stays-next s _ refl
    packed-advances (Retransmits offset block) none is = stays-next s _ refl
    packed-advances (Drops message) none is = absurd (packing-no_drop w s.sending s.last message none is)
    packed-advances (Sends block) none is = record { once = omega arith; sends = omega arith }
    packed-advances Idles none is = stays-next s _ refl

    pack-advances : (link : Link) → NoneExpires s.sending.blocks.kept → Advances s.sending.next (pack_in w s link)
    pack-advances Stands none = packed-advances (packing w s.sending s.last) none refl
    pack-advances (Lost why) none = stays-next s _ refl
    pack-advances Absent none = stays-next s _ refl

    exp-next : (what : ExpOutcome) → (after_exp w (after_reports s) what).sending.next ≡ s.sending.next
    exp-next exp.NotDue = refl
    exp-next exp.Breaks = refl
    exp-next exp.LosesAll = timeout-next s.sending s.rtt
    exp-next exp.KeepsAlive = refl

    repeats-advances : (began again : ℕ) (next : Phase) (emission : Emission) → Advances s.sending.next (repeats s began again next emission)
    repeats-advances began again next emission =
        repeats-show s began again next emission (Advances s.sending.next)
        (record { fails = stays-next s _ refl; again = stays-next s _ refl; waits = stays-next s _ refl })

    tick-advances : (phase : Phase) → Advances s.sending.next (tick_in w s phase)
    tick-advances phase.Connected = stays-next s (tick_in w s phase.Connected) (exp-next (exp_outcome s))
    tick-advances (phase.Connecting c again) = repeats-advances c.caller.began again _ _
    tick-advances (phase.Meeting m again) = repeats-advances m.caller.began again _ _
    tick-advances phase.Closing = stays-next s _ refl
    tick-advances _ = stays-next s _ refl

    arrive-advances : (from : Addr) (bytes : List ℕ) → Advances s.sending.next (on_read w s from (read bytes))
    arrive-advances from bytes = arrival-shows w s from (Advances s.sending.next) (read bytes) (record {
      passed = λ counters answer differs. stays-next s _ refl;
      noticed = λ counters answer differs connected. stays-next s _ refl;
      brought = λ number flags stamp payload connected sender is. stays-next s _ refl;
      dropped = λ message stamp first last range connected sender is messages taken. stays-next s _ refl;
      acknowledged = λ number stamp body offset connected sender is acks. stays-next s _ (after_ack-next w s.sending s.rtt body);
      reported = λ stamp ranges connected sender is. stays-next s _ (nak-next s.sending s.rtt ranges);
      confirmed = λ number ack connected found. stays-next s _ refl;
      ended = λ connected. stays-next s _ refl;
      again = λ stamp dest shake answer connected sender is same answers. stays-next s _ refl;
      shaken = λ next peer origin answer emissions differs drops unsettled is. stays-next s _ refl;
      linked = λ peer origin emissions unsettled is. stays-next s _ refl;
    })

    act-advances : (act : Act) → NoneExpires s.sending.blocks.kept → Advances s.sending.next (on_act w s act)
    act-advances (Send bytes) none = send_as-advances bytes s.kind
    act-advances (Recv room) none = recv_as-advances room s.kind
    act-advances (SendMessage ttl order bytes) none = message_as-advances ttl order bytes s.kind
    act-advances (RecvMessage room) none = show_as-advances room s.kind
    act-advances Pack none = pack-advances (link_of s.phase) none
    act-advances Tick none = tick-advances s.phase
    act-advances (Arrive from bytes) none = arrive-advances from bytes
    act-advances _ none = stays-next s _ refl

  pub step-advances : (s : State C) (event : Event) → NoneExpires s.sending.blocks.kept → Advances s.sending.next (step w s event)
  unfolding step
  step-advances s event none = act-advances (at_moment s event.now) event.act none

  -- a stream none of whose blocks expires, which it stays
  pub record IsEndless (s : State C) : Type 0 where
    pub stream : s.kind ≡ kind.Stream
    pub none : NoneExpires s.sending.blocks.kept

  pub stays-endless : (s : State C) (event : Event) → IsEndless s → IsEndless (step w s event).after
  stays-endless s event endless = record {
    stream = (step-keeps_name w s event).kind ∙ endless.stream;
    none = stream-none_expires w s event endless.stream endless.none;
  }

  pub moment-endless : (s : State C) (now : ℕ) → IsEndless s → IsEndless (at_moment s now)
  moment-endless s now endless = record { stream = endless.stream; none = endless.none }

  pub items-endless : (s : State C) (items : List Item) → IsEndless s → IsEndless (after_items w s items)
  unfolding after_items
  items-endless s [] endless = endless
  items-endless s (item ∷ items) endless = items-endless (step w s item.event).after items (stays-endless s item.event endless)

  -- a stream that is connected begins so
  pub begins-endless : (h : History C) → Begins w h → h.opening.kind ≡ kind.Stream → IsEndless h.opening
  begins-endless h begins stream = record {
    stream = stream;
    none = subst NoneExpires (sym (begins_kept w h begins)) tt;
  }

  -- an event emits as many datagrams as it has emissions
  pub outs-many : (outcome : Outcome C) → length (outs_of outcome) ≡ length outcome.emissions
  outs-many outcome = length-map outcome.emissions (λ (emission : Emission). emission.datagram)

  -- over items, it rises by at most their number, and by at most that of the datagrams that they sent
  pub record HasAdvanced (next after : ℕ) (items : List Item) : Type 0 where
    pub events : after ≤ next + length items
    pub sends : after ≤ next + length (sent_by items)

  pub items-advance : (s : State C) (items : List Item) → IsEndless s → AreLegal w s items → HasAdvanced s.sending.next (after_items w s items).sending.next items
  unfolding after_items AreLegal sent_by
  items-advance s [] endless legal = record { events = omega arith; sends = omega arith }
  items-advance s (item ∷ items) endless legal =
      let next = (step w s item.event).after in
      let one = step-advances s item.event endless.none in
      let rest = items-advance next items (stays-endless s item.event endless) legal.2 in
      let many = ap length legal.1 ∙ outs-many (step w s item.event) in
      record {
        events = omega (arith, one.once, rest.events);
        sends = omega (arith, one.sends, rest.sends, many, length-append item.outs (sent_by items));
      }

  -- an emission that is a data packet names an offset that was sent before, or the first that wasn't
  pub packet-below : (s : State C) (act : Act) (reply : Reply) (start : ℕ) (blocks : List (List ℕ)) (emission : Emission) (x : Emitting w s act reply emission)
      (number : ℕ) (flags : Flags) (stamp dest : ℕ)
      (payload : List ℕ) (offset : ℕ) → IsCut s.sending start blocks → packet_of w s act reply emission x ≡ Block number flags stamp dest payload
      → Contains emission.offsets offset → offset ≤ s.sending.next
  packet-below s act reply start blocks emission (NewBlock block connected packs is) number flags stamp dest payload offset cut same named =
      omega (arith, only-named emission s.sending.next offset (ap (λ (e : Emission). e.offsets) is) named)
  packet-below s act reply start blocks emission (LostBlock lost block connected packs is) number flags stamp dest payload offset cut same named =
      let within = lost-within s.sending start blocks lost block cut (packing-again w s.sending s.last lost block packs) in
      omega (arith, within.1, only-named emission lost offset (ap (λ (e : Emission). e.offsets) is) named)
  packet-below s act reply start blocks emission (DropRequest message connected packs is) number flags stamp dest payload offset cut same named = absurd (cc)
  packet-below s act reply start blocks emission (FullAck ack connected tells is) number flags stamp dest payload offset cut same named = absurd (cc)
  packet-below s act reply start blocks emission (LightAck from raw n f t bytes connected arrives carries sender replies is) number flags stamp dest payload offset cut same named = absurd (cc)
  packet-below s act reply start blocks emission (Reports range ranges connected reports is) number flags stamp dest payload offset cut same named = absurd (cc)
  packet-below s act reply start blocks emission (ReportsGap from raw n f t bytes ends connected arrives carries sender gap is) number flags stamp dest payload offset cut same named = absurd (cc)
  packet-below s act reply start blocks emission (ReportsDropGap from raw m t first last range ends connected arrives asks sender messages taken gap is) number flags stamp dest payload offset cut same named = absurd (cc)
  packet-below s act reply start blocks emission (AnswersAck n connected is) number flags stamp dest payload offset cut same named = absurd (cc)
  packet-below s act reply start blocks emission (SendsKeepAlive connected is) number flags stamp dest payload offset cut same named = absurd (cc)
  packet-below s act reply start blocks emission (TheEnd closing is) number flags stamp dest payload offset cut same named = absurd (cc)
  packet-below s act reply start blocks emission (SendsHandshake to d shake sends is) number flags stamp dest payload offset cut same named = absurd (cc)
