-- What a socket emits: blocks, message drop requests, ACKs, NAKs, ACK2s, keep-alives, handshakes and a shutdown, each
-- at a moment of its history.
use Rattle.std.proofs.Common.{◌≡◌, ℕ, true, false, List, [], ◌∷◌, ◌++◌, Ok, refl, ap, sym, inl, inr, arith}
use Rattle.std.specs.Prelude.{Bool, Option, Some, None, ◌==◌, map, min}
use Rattle.std.specs.List.{Contains, concat}
use Rattle.std.proofs.lemmas.List.Elements.{Contains-append_cases, Contains-push_cases}
use Rattle.udt_model.specs.declared.addresses.Addr.{Addr}
use Rattle.udt_model.specs.declared.answers.Heard.{Heard}
use Rattle.udt_model.specs.declared.answers.Origin.{Origin}
use Rattle.udt_model.specs.declared.answers.Origin.TheVariants as origin
use Rattle.udt_model.specs.declared.answers.Peer.{Peer}
use Rattle.udt_model.specs.declared.handshakes.Asked.{Asked}
use Rattle.udt_model.specs.declared.handshakes.Asked.TheVariants as asks
use Rattle.udt_model.specs.declared.handshakes.MeetSaw.TheVariants as meet
use Rattle.udt_model.specs.declared.handshakes.Verdict.TheVariants as verdict
use Rattle.udt_model.specs.declared.packets.Shake.{Shake}
use Rattle.udt_model.specs.Phases.{Phase, Backlog, Link, Stands, Lost, Absent, link_of, has_place}
use Rattle.udt_model.specs.Phases as phase
use Rattle.udt_model.specs.declared.packets.AckBody.{AckBody}
use Rattle.udt_model.specs.declared.packets.AckBody.TheVariants.{Light, Buffer, Full}
use Rattle.udt_model.specs.declared.packets.Flags.{Flags}
use Rattle.udt_model.specs.declared.packets.Kind.{Kind}
use Rattle.udt_model.specs.declared.packets.Kind.TheVariants as kind
use Rattle.udt_model.specs.declared.sockets.ExpOutcome.{ExpOutcome}
use Rattle.udt_model.specs.declared.sockets.ExpOutcome.TheVariants as exp
use Rattle.udt_model.specs.declared.sockets.SentAck.{SentAck}
use Rattle.udt_model.specs.Arrivals.{heard_now, heard_of, emitted_by_gap, emitted_by_light, emitted_by_ack2, on_read}
use Rattle.udt_model.specs.Calls.{stamp_of, emission as emits, block_emission, drop_emission, send_in, send_as, recv_in, recv_as, send_message_in, send_message_as, recv_message_in, recv_message_as, pack_in, emitted_by_packing}
use Rattle.udt_model.specs.Connections.{adopted_id, caller_of, shake_emission, repeats}
use Rattle.udt_model.specs.Emissions.{emitted_by}
use Rattle.udt_model.specs.Events.{Act, Send, Recv, SendMessage, RecvMessage, Pack, Tick, Arrive, Event, Reply, DidHear, at_moment}
use Rattle.udt_model.specs.Handshakes.{Connecting, Meeting, asked, says, judged, client_request, meet_saw, meet_request}
use Rattle.udt_model.specs.History.{Item, after_items}
use Rattle.udt_model.specs.Losses.{LostRange}
use Rattle.udt_model.specs.Opening.{connected}
use Rattle.udt_model.specs.Rate.{Ways}
use Rattle.udt_model.specs.ReceiveHalf.{block_answer, after_block, gap_before, drop_range}
use Rattle.udt_model.specs.ReceiveReports.{AckOutcome, IsEarly, IsKnown, EmitsAck, ack_outcome, full_ack, light_ack, ack_offset, nak_report}
use Rattle.udt_model.specs.SendBlocks.{Message, KeptBlock}
use Rattle.udt_model.specs.SendHalf.{Packing, Waits, Retransmits, Drops, Sends, Idles, packing}
use Rattle.udt_model.specs.Shaking.{answer_again, meet_answer, agreement_to}
use Rattle.udt_model.specs.State.{State, Emission}
use Rattle.udt_model.specs.Step.{on_act, step}
use Rattle.udt_model.specs.Ticks.{emitted_by_ack, numbers_of, ends_of, nak_of, emitted_by_reports, exp_outcome, emitted_by_exp, tick_in}
use Rattle.udt_model.specs.Wire.{Block, Handshake, KeepAlive, Ack, Nak, Shutdown, Ack2, DropAsk, read}
use Rattle.udt_model.proofs.ArrivalLemmas.{Shakes, Links, arrival-shows}
use Rattle.udt_model.proofs.ArrivalLemmas as arrives
use Rattle.udt_model.proofs.PhaseLemmas.{stands-connected, repeats-show}

module _ {C : Type 0} where
  -- the handshakes that a socket in this state emits with an act: where each goes, the ID that it names there, and what
  -- it says
  pub data SendsShake (s : State C) (act : Act) : Addr → ℕ → Shake → Type 0 where
    -- a client's request, with the cookie that it has or was just given
    Requests : (c : Connecting) → (again cookie : ℕ) → s.phase ≡ phase.Connecting c again
        → SendsShake s act c.caller.to 0 (client_request (record c { cookie = cookie }))
    -- what a meeting socket says again and again
    Meets : (m : Meeting) → (again : ℕ) → s.phase ≡ phase.Meeting m again
        → SendsShake s act m.caller.to (adopted_id m.adopted) (meet_request m)
    -- its answer to the peer that it has adopted before
    AnswersPeer : (m : Meeting) → (again : ℕ) → (peer : Peer) → s.phase ≡ phase.Meeting m again → m.adopted ≡ Some peer
        → SendsShake s act peer.addr peer.id (meet_request m)
    -- its answer to the peer that it adopts
    AnswersNew : (m : Meeting) → (again : ℕ) → (from : Addr) → (raw : List ℕ) → (stamp dest : ℕ) → (shake : Shake)
        → (peer : Peer)
        → s.phase ≡ phase.Meeting m again → act ≡ Arrive from raw → read raw ≡ Ok (Handshake stamp dest shake)
        → meet_saw m dest shake from ≡ meet.Adopted peer
        → SendsShake s act peer.addr peer.id (meet_request (record m { adopted = Some peer }))
    -- its answer to the answer that connects it
    Agrees : (m : Meeting) → (again : ℕ) → (from : Addr) → (raw : List ℕ) → (stamp dest : ℕ) → (shake : Shake)
        → (peer : Peer)
        → s.phase ≡ phase.Meeting m again → act ≡ Arrive from raw → read raw ≡ Ok (Handshake stamp dest shake)
        → meet_saw m dest shake from ≡ meet.Connected peer
        → SendsShake s act peer.addr peer.id
        (says (caller_of s peer.addr) (min s.sending.blocks.room peer.payload) asks.Agrees 0)
    -- an answer once more
    AnswersAgain : (again answer : Asked) → s.phase ≡ phase.Connected → answer_again s.origin again ≡ Some answer
        → SendsShake s act s.peer.addr s.peer.id (says (caller_of s s.peer.addr) s.receiving.payload answer 0)
    -- what a listener sends back: the request with a cookie, or a refusal
    GivesCookie : (b : Backlog) → (from : Addr) → (raw : List ℕ) → (stamp : ℕ) → (shake answer : Shake)
        → s.phase ≡ phase.Listening b → act ≡ Arrive from raw → read raw ≡ Ok (Handshake stamp 0 shake)
        → asked shake.ask ≡ asks.Requests → (shake.id == 0) ≡ false
        → judged b.listening shake from s.last (has_place b) ≡ verdict.Cookie answer
        → SendsShake s act from shake.id answer
    Refuses : (b : Backlog) → (from : Addr) → (raw : List ℕ) → (stamp : ℕ) → (shake answer : Shake)
        → s.phase ≡ phase.Listening b → act ≡ Arrive from raw → read raw ≡ Ok (Handshake stamp 0 shake)
        → asked shake.ask ≡ asks.Requests → (shake.id == 0) ≡ false
        → judged b.listening shake from s.last (has_place b) ≡ verdict.Reject answer
        → SendsShake s act from shake.id answer

module _ {C : Type 0} (w : Ways C) where
  -- what a socket in this state emits: a new block, a lost one again, a message drop request, a full or a light ACK, a NAK of
  -- what is due or of a gap, an ACK2, a keep-alive, the end, or a handshake
  pub data Emitting (s : State C) (act : Act) (reply : Reply) (emission : Emission) : Type 0 where
    NewBlock : (block : KeptBlock) → s.phase ≡ phase.Connected → packing w s.sending s.last ≡ Sends block
        → emission ≡ block_emission s s.sending.next block → Emitting s act reply emission
    LostBlock : (offset : ℕ) → (block : KeptBlock) → s.phase ≡ phase.Connected → packing w s.sending s.last ≡ Retransmits offset block
        → emission ≡ block_emission s offset block → Emitting s act reply emission
    DropRequest : (message : Message) → s.phase ≡ phase.Connected → packing w s.sending s.last ≡ Drops message
        → emission ≡ drop_emission s message → Emitting s act reply emission
    FullAck : (ack : SentAck) → s.phase ≡ phase.Connected → ack_outcome s.receiving s.last s.rtt ≡ EmitsAck ack
        → emission ≡ emits s (Ack ack.number (stamp_of s) s.peer.id (full_ack s.receiving s.rtt ack.offset)) (ack.offset ∷ [])
        → Emitting s act reply emission
    LightAck : (from : Addr) → (raw : List ℕ) → (number : ℕ) → (flags : Flags) → (stamp : ℕ) → (bytes : List ℕ)
        → s.phase ≡ phase.Connected → act ≡ Arrive from raw → read raw ≡ Ok (Block number flags stamp s.own bytes)
        → from ≡ s.peer.addr → reply ≡ DidHear (heard_of (block_answer s.receiving number).placed)
        → emission ≡ emits s
        (Ack 0 (stamp_of s) s.peer.id (light_ack (after_block s.receiving s.last number flags bytes)))
        (ack_offset (after_block s.receiving s.last number flags bytes) ∷ [])
        → Emitting s act reply emission
    Reports : (range : LostRange) → (ranges : List LostRange) → s.phase ≡ phase.Connected
        → nak_report s.receiving s.last s.rtt ≡ range ∷ ranges
        → emission ≡ emits s
        (Nak (stamp_of s) s.peer.id (map (numbers_of s) (range ∷ ranges)))
        (concat (map ends_of (range ∷ ranges)))
        → Emitting s act reply emission
    ReportsGap : (from : Addr) → (raw : List ℕ) → (number : ℕ) → (flags : Flags) → (stamp : ℕ) → (bytes : List ℕ) → (ends : ℕ × ℕ)
        → s.phase ≡ phase.Connected → act ≡ Arrive from raw → read raw ≡ Ok (Block number flags stamp s.own bytes)
        → from ≡ s.peer.addr → (block_answer s.receiving number).gap ≡ Some ends
        → emission ≡ emits s
        (Nak (stamp_of s) s.peer.id
        (numbers_of (record s { receiving = after_block s.receiving s.last number flags bytes }) (record { first = ends.0; last = ends.1 }) ∷ []))
        (ends.0 ∷ ends.1 ∷ [])
        → Emitting s act reply emission
    ReportsDropGap : (from : Addr) → (raw : List ℕ) → (message stamp first last : ℕ) → (range : LostRange) → (ends : ℕ × ℕ)
        → s.phase ≡ phase.Connected → act ≡ Arrive from raw → read raw ≡ Ok (DropAsk message stamp s.own first last)
        → from ≡ s.peer.addr → s.kind ≡ kind.Message → drop_range s.receiving first last ≡ Some range
        → gap_before s.receiving.top range.first ≡ Some ends
        → emission ≡ emits s
        (Nak (stamp_of s) s.peer.id (numbers_of s (record { first = ends.0; last = ends.1 }) ∷ []))
        (ends.0 ∷ ends.1 ∷ [])
        → Emitting s act reply emission
    AnswersAck : (number : ℕ) → s.phase ≡ phase.Connected → emission ≡ emits s (Ack2 number (stamp_of s) s.peer.id) []
        → Emitting s act reply emission
    SendsKeepAlive : s.phase ≡ phase.Connected → emission ≡ emits s (KeepAlive (stamp_of s) s.peer.id) [] → Emitting s act reply emission
    TheEnd : s.phase ≡ phase.Closing → emission ≡ emits s (Shutdown (stamp_of s) s.peer.id) [] → Emitting s act reply emission
    SendsHandshake : (to : Addr) → (dest : ℕ) → (shake : Shake) → SendsShake s act to dest shake
        → emission ≡ shake_emission s to dest shake → Emitting s act reply emission

  -- each of these emissions is one of those
  AllEmitting : State C → Act → Reply → List Emission → Type 0
  AllEmitting s act reply emissions = (emission : Emission) → Contains emissions emission → Emitting s act reply emission

  module _ (s : State C) (act : Act) (reply : Reply) where
    none-emitting : AllEmitting s act reply []
    unfolding AllEmitting
    none-emitting emission among = absurd (omega (arith, among.1))

    one-emitting : (first : Emission) → ((emission : Emission) → emission ≡ first → Emitting s act reply emission) → AllEmitting s act reply (first ∷ [])
    unfolding AllEmitting
    one-emitting first is emission among = elim (Contains-push_cases [] first emission among) [
      | inl none ↦ absurd (omega (arith, none.1))
      | inr same ↦ is emission (sym same)
    ]

    both-emitting : (first second : List Emission) → AllEmitting s act reply first → AllEmitting s act reply second → AllEmitting s act reply (first ++ second)
    unfolding AllEmitting
    both-emitting first second one two emission among = elim (Contains-append_cases first second emission among) [
      | inl here ↦ one emission here
      | inr there ↦ two emission there
    ]

    packed-emitting : (p : Packing) → s.phase ≡ phase.Connected → packing w s.sending s.last ≡ p → AllEmitting s act reply (emitted_by_packing w s p)
    packed-emitting (Waits until) connected is = none-emitting
    packed-emitting (Retransmits offset block) connected is = one-emitting _ (λ emission same. LostBlock offset block connected is same)
    packed-emitting (Drops message) connected is = one-emitting _ (λ emission same. DropRequest message connected is same)
    packed-emitting (Sends block) connected is = one-emitting _ (λ emission same. NewBlock block connected is same)
    packed-emitting Idles connected is = none-emitting

    pack-emitting : (link : Link) → link_of s.phase ≡ link → AllEmitting s act reply (pack_in w s link).emissions
    pack-emitting Stands is = packed-emitting (packing w s.sending s.last) (stands-connected s.phase is) refl
    pack-emitting (Lost why) is = none-emitting
    pack-emitting Absent is = none-emitting

    exp-emitting : (what : ExpOutcome) → s.phase ≡ phase.Connected → AllEmitting s act reply (emitted_by_exp s what)
    exp-emitting exp.NotDue connected = none-emitting
    exp-emitting exp.Breaks connected = none-emitting
    exp-emitting exp.LosesAll connected = none-emitting
    exp-emitting exp.KeepsAlive connected = one-emitting _ (λ emission same. SendsKeepAlive connected same)

    ack-emitting : (t : AckOutcome) → s.phase ≡ phase.Connected → ack_outcome s.receiving s.last s.rtt ≡ t → AllEmitting s act reply (emitted_by_ack s t)
    ack-emitting IsEarly connected is = none-emitting
    ack-emitting IsKnown connected is = none-emitting
    ack-emitting (EmitsAck ack) connected is = one-emitting _ (λ emission same. FullAck ack connected is same)

    nak-emitting : (ranges : List LostRange) → s.phase ≡ phase.Connected → nak_report s.receiving s.last s.rtt ≡ ranges
        → AllEmitting s act reply (nak_of s ranges)
    nak-emitting [] connected is = none-emitting
    nak-emitting (range ∷ ranges) connected is = one-emitting _ (λ emission same. Reports range ranges connected is same)

    repeats-emitting : (began again : ℕ) (next : Phase) (emission : Emission) → AllEmitting s act reply (emission ∷ [])
        → AllEmitting s act reply (repeats s began again next emission).emissions
    repeats-emitting began again next emission one =
        repeats-show s began again next emission (λ outcome. AllEmitting s act reply outcome.emissions)
        (record { fails = none-emitting; again = one; waits = none-emitting })

    tick-emitting : (phase : Phase) → s.phase ≡ phase → AllEmitting s act reply (tick_in w s phase).emissions
    tick-emitting phase.Connected is =
        both-emitting (emitted_by_reports s) (emitted_by_exp s (exp_outcome s))
        (both-emitting (emitted_by_ack s (ack_outcome s.receiving s.last s.rtt)) (nak_of s (nak_report s.receiving s.last s.rtt))
        (ack-emitting (ack_outcome s.receiving s.last s.rtt) is refl) (nak-emitting (nak_report s.receiving s.last s.rtt) is refl))
        (exp-emitting (exp_outcome s) is)
    tick-emitting (phase.Connecting c again) is =
        repeats-emitting c.caller.began again _ _
        (one-emitting _ (λ emission same. SendsHandshake _ _ _ (Requests c again c.cookie is) same))
    tick-emitting (phase.Meeting m again) is =
        repeats-emitting m.caller.began again _ _
        (one-emitting _ (λ emission same. SendsHandshake _ _ _ (Meets m again is) same))
    tick-emitting phase.Closing is = one-emitting _ (λ emission same. TheEnd is same)
    tick-emitting _ is = none-emitting

    send-emitting : (bytes : List ℕ) (link : Link) → AllEmitting s act reply (send_in s bytes link).emissions
    send-emitting bytes Stands = none-emitting
    send-emitting bytes (Lost why) = none-emitting
    send-emitting bytes Absent = none-emitting

    recv-emitting : (room : ℕ) (link : Link) → AllEmitting s act reply (recv_in s room link).emissions
    recv-emitting room Stands = none-emitting
    recv-emitting room (Lost why) = none-emitting
    recv-emitting room Absent = none-emitting

    send_as-emitting : (bytes : List ℕ) (k : Kind) → AllEmitting s act reply (send_as s bytes k).emissions
    send_as-emitting bytes kind.Stream = send-emitting bytes (link_of s.phase)
    send_as-emitting bytes kind.Message = none-emitting

    recv_as-emitting : (room : ℕ) (k : Kind) → AllEmitting s act reply (recv_as s room k).emissions
    recv_as-emitting room kind.Stream = recv-emitting room (link_of s.phase)
    recv_as-emitting room kind.Message = none-emitting

    send_message-emitting : (ttl : Option ℕ) (order : Bool) (bytes : List ℕ) (link : Link)
        → AllEmitting s act reply (send_message_in s ttl order bytes link).emissions
    send_message-emitting ttl order bytes Stands = none-emitting
    send_message-emitting ttl order bytes (Lost why) = none-emitting
    send_message-emitting ttl order bytes Absent = none-emitting

    send_message_as-emitting : (ttl : Option ℕ) (order : Bool) (bytes : List ℕ) (k : Kind)
        → AllEmitting s act reply (send_message_as s ttl order bytes k).emissions
    send_message_as-emitting ttl order bytes kind.Stream = none-emitting
    send_message_as-emitting ttl order bytes kind.Message = send_message-emitting ttl order bytes (link_of s.phase)

    recv_message-emitting : (room : ℕ) (link : Link) → AllEmitting s act reply (recv_message_in s room link).emissions
    recv_message-emitting room Stands = none-emitting
    recv_message-emitting room (Lost why) = none-emitting
    recv_message-emitting room Absent = none-emitting

    recv_message_as-emitting : (room : ℕ) (k : Kind) → AllEmitting s act reply (recv_message_as s room k).emissions
    recv_message_as-emitting room kind.Stream = none-emitting
    recv_message_as-emitting room kind.Message = recv_message-emitting room (link_of s.phase)

    ack2-emitting : (number : ℕ) (body : AckBody) → s.phase ≡ phase.Connected → AllEmitting s act reply (emitted_by_ack2 (heard_now s) number body)
    ack2-emitting number (Light ack) connected = none-emitting
    ack2-emitting number (Buffer ack rtt var buffer) connected = one-emitting _ (λ emission same. AnswersAck number connected same)
    ack2-emitting number (Full ack rtt var buffer rate capacity) connected =
        one-emitting _ (λ emission same. AnswersAck number connected same)

  module _ (s : State C) (from : Addr) (raw : List ℕ) where
    gap-emitting : (number : ℕ) (flags : Flags) (stamp : ℕ) (bytes : List ℕ) (reply : Reply) (gap : Option (ℕ × ℕ)) → s.phase ≡ phase.Connected
        → read raw ≡ Ok (Block number flags stamp s.own bytes) → from ≡ s.peer.addr → (block_answer s.receiving number).gap ≡ gap
        → AllEmitting s (Arrive from raw) reply
        (emitted_by_gap (record (heard_now s) { receiving = after_block s.receiving s.last number flags bytes }) gap)
    gap-emitting number flags stamp bytes reply None connected carries sender is = none-emitting s (Arrive from raw) reply
    gap-emitting number flags stamp bytes reply (Some ends) connected carries sender is =
        one-emitting s (Arrive from raw) reply _ (λ emission same.
        ReportsGap from raw number flags stamp bytes ends connected refl carries sender is same)

    light-emitting : (number : ℕ) (flags : Flags) (stamp : ℕ) (bytes : List ℕ) (reply : Reply) (light : Bool) → s.phase ≡ phase.Connected
        → read raw ≡ Ok (Block number flags stamp s.own bytes) → from ≡ s.peer.addr
        → reply ≡ DidHear (heard_of (block_answer s.receiving number).placed)
        → AllEmitting s (Arrive from raw) reply
        (emitted_by_light (record (heard_now s) { receiving = after_block s.receiving s.last number flags bytes }) light)
    light-emitting number flags stamp bytes reply false connected carries sender is = none-emitting s (Arrive from raw) reply
    light-emitting number flags stamp bytes reply true connected carries sender is =
        one-emitting s (Arrive from raw) reply _ (λ emission same. LightAck from raw number flags stamp bytes connected refl carries sender is same)

    drop-emitting : (message stamp first last : ℕ) (range : LostRange) (reply : Reply) (gap : Option (ℕ × ℕ)) → s.phase ≡ phase.Connected
        → read raw ≡ Ok (DropAsk message stamp s.own first last) → from ≡ s.peer.addr → s.kind ≡ kind.Message
        → drop_range s.receiving first last ≡ Some range → gap_before s.receiving.top range.first ≡ gap
        → AllEmitting s (Arrive from raw) reply (emitted_by_gap (heard_now s) gap)
    drop-emitting message stamp first last range reply None connected asks sender messages taken is = none-emitting s (Arrive from raw) reply
    drop-emitting message stamp first last range reply (Some ends) connected asks sender messages taken is =
        one-emitting s (Arrive from raw) reply _ (λ emission same.
        ReportsDropGap from raw message stamp first last range ends connected refl asks sender messages taken is same)

    answer-emitting : (reply : Reply) (m : Meeting) (again : ℕ) (adopted : Option Peer)
        → s.phase ≡ phase.Meeting m again
        → m.adopted ≡ adopted → AllEmitting s (Arrive from raw) reply (meet_answer s m adopted)
    answer-emitting reply m again None is adopts = none-emitting s (Arrive from raw) reply
    answer-emitting reply m again (Some peer) is adopts =
        one-emitting s (Arrive from raw) reply _
        (λ emission same. SendsHandshake _ _ _ (AnswersPeer m again peer is adopts) same)

    agreement-emitting : (reply : Reply) (m : Meeting) (again stamp dest : ℕ) (shake : Shake) (peer : Peer) (a : Asked)
        → s.phase ≡ phase.Meeting m again → read raw ≡ Ok (Handshake stamp dest shake) → meet_saw m dest shake from
        ≡ meet.Connected peer
        → AllEmitting s (Arrive from raw) reply (agreement_to (connected w s peer origin.Rendezvous) a)
    agreement-emitting reply m again stamp dest shake peer asks.Answers is reads sees =
        one-emitting s (Arrive from raw) reply _ (λ emission same.
        SendsHandshake _ _ _ (Agrees m again from raw stamp dest shake peer is refl reads sees) same)
    agreement-emitting reply m again stamp dest shake peer _ is reads sees = none-emitting s (Arrive from raw) reply

    shakes-emitting : (reply : Reply) (next : Phase) (peer : Peer) (origin : Origin) (answer : Heard)
        (emissions : List Emission)
        → Shakes s from (read raw) next peer origin answer emissions → AllEmitting s (Arrive from raw) reply emissions
    shakes-emitting reply _ _ _ _ _ (arrives.GivesCookie b stamp shake answer is reads asks named judges) =
        one-emitting s (Arrive from raw) reply _ (λ emission same.
        SendsHandshake _ _ _ (GivesCookie b from raw stamp shake answer is refl reads asks named judges) same)
    shakes-emitting reply _ _ _ _ _ (arrives.Promises b stamp shake is reads asks named judges) =
        none-emitting s (Arrive from raw) reply
    shakes-emitting reply _ _ _ _ _ (arrives.Refuses b stamp shake answer is reads asks named judges) =
        one-emitting s (Arrive from raw) reply _ (λ emission same.
        SendsHandshake _ _ _ (Refuses b from raw stamp shake answer is refl reads asks named judges) same)
    shakes-emitting reply _ _ _ _ _ (arrives.TakesCookie c again stamp dest shake is reads sees) =
        one-emitting s (Arrive from raw) reply _
        (λ emission same. SendsHandshake _ _ _ (Requests c again shake.cookie is) same)
    shakes-emitting reply _ _ _ _ _ (arrives.IsRefused c again stamp dest shake is reads sees) =
        none-emitting s (Arrive from raw) reply
    shakes-emitting reply _ _ _ _ _ (arrives.Adopts m again stamp dest shake peer is reads sees) =
        one-emitting s (Arrive from raw) reply _ (λ emission same.
        SendsHandshake _ _ _ (AnswersNew m again from raw stamp dest shake peer is refl reads sees) same)
    shakes-emitting reply _ _ _ _ _ (arrives.AnswersAdopted m again stamp dest shake is reads sees) =
        answer-emitting reply m again m.adopted is refl

    links-emitting : (reply : Reply) (peer : Peer) (origin : Origin) (emissions : List Emission)
        → Links w s from (read raw) peer origin emissions
        → AllEmitting s (Arrive from raw) reply emissions
    links-emitting reply _ _ _ (arrives.ByListener c again stamp dest shake peer is reads sees) =
        none-emitting s (Arrive from raw) reply
    links-emitting reply _ _ _ (arrives.ByMeeting m again stamp dest shake peer is reads sees) =
        agreement-emitting reply m again stamp dest shake peer (asked shake.ask) is reads sees

    read-emitting : AllEmitting s (Arrive from raw) (on_read w s from (read raw)).reply (on_read w s from (read raw)).emissions
    read-emitting = arrival-shows w s from (λ outcome. AllEmitting s (Arrive from raw) outcome.reply outcome.emissions) (read raw) (record {
      passed = λ counters answer differs. none-emitting s (Arrive from raw) _;
      noticed = λ counters answer differs connected. none-emitting s (Arrive from raw) _;
      brought = λ number flags stamp bytes connected sender is.
          both-emitting s (Arrive from raw) _ _ _
          (gap-emitting number flags stamp bytes _ (block_answer s.receiving number).gap connected is sender refl)
          (light-emitting number flags stamp bytes _ (block_answer s.receiving number).light connected is sender refl);
      dropped = λ message stamp first last range connected sender is messages taken.
          drop-emitting message stamp first last range _ (gap_before s.receiving.top range.first) connected is sender messages taken refl;
      acknowledged = λ number stamp body offset connected sender is acks. ack2-emitting s (Arrive from raw) _ number body connected;
      reported = λ stamp ranges connected sender is. none-emitting s (Arrive from raw) _;
      confirmed = λ number ack connected found. none-emitting s (Arrive from raw) _;
      ended = λ connected. none-emitting s (Arrive from raw) _;
      again = λ stamp dest shake answer connected sender is same answers.
          one-emitting s (Arrive from raw) _ _
          (λ emission is. SendsHandshake _ _ _ (AnswersAgain (asked shake.ask) answer connected answers) is);
      shaken = λ next peer origin answer emissions differs drops unsettled is. shakes-emitting _ next peer origin answer
          emissions is;
      linked = λ peer origin emissions unsettled is. links-emitting _ peer origin emissions is;
    })

  act-emitting : (s : State C) (act : Act) → AllEmitting s act (on_act w s act).reply (on_act w s act).emissions
  act-emitting s (Send bytes) = send_as-emitting s (Send bytes) _ bytes s.kind
  act-emitting s (Recv room) = recv_as-emitting s (Recv room) _ room s.kind
  act-emitting s (SendMessage ttl order bytes) =
      send_message_as-emitting s (SendMessage ttl order bytes) _ ttl order bytes s.kind
  act-emitting s (RecvMessage room) = recv_message_as-emitting s (RecvMessage room) _ room s.kind
  act-emitting s Pack = pack-emitting s Pack _ (link_of s.phase) refl
  act-emitting s Tick = tick-emitting s Tick _ s.phase refl
  act-emitting s (Arrive from bytes) = read-emitting s from bytes
  act-emitting s act = none-emitting s act _

  -- what an event emits, the socket emits in the state at its moment
  pub step-emitting : (s : State C) (event : Event) (emission : Emission) → Contains (step w s event).emissions emission
      → Emitting (at_moment s event.now) event.act (step w s event).reply emission
  unfolding step AllEmitting
  step-emitting s event emission among = act-emitting (at_moment s event.now) event.act emission among

  -- ---- histories

  -- the item of these with which this was emitted, and those before and after it
  pub record IsEmittedAt (s : State C) (items : List Item) (emission : Emission) : Type 0 where
    pub front : List Item
    pub item : Item
    pub rest : List Item
    pub joined : items ≡ front ++ item ∷ rest
    pub among : Contains (step w (after_items w s front) item.event).emissions emission
    pub emitting : Emitting (at_moment (after_items w s front) item.event.now) item.event.act
        (step w (after_items w s front) item.event).reply emission

  -- each emission of items was emitted with one of them
  pub emitted-at : (s : State C) (items : List Item) (emission : Emission) → Contains (emitted_by w s items) emission
      → IsEmittedAt s items emission
  unfolding after_items emitted_by
  emitted-at s [] emission among = absurd (omega (arith, among.1))
  emitted-at s (item ∷ items) emission among =
      elim (Contains-append_cases (step w s item.event).emissions _ emission among) [
        | inl here ↦ record {
          front = [];
          item = item;
          rest = items;
          joined = refl;
          among = here;
          emitting = step-emitting s item.event emission here;
        }
        | inr there ↦
            let found = emitted-at (step w s item.event).after items emission there in
            record {
              front = item ∷ found.front;
              item = found.item;
              rest = found.rest;
              joined = ap (λ (others : List Item). item ∷ others) found.joined;
              among = found.among;
              emitting = found.emitting;
            }
      ]
