-- What an arrival may do: either it passes by, or it is an arrival from the peer, which may carry a block, a message drop
-- request, an ACK, a NAK, an ACK2, a handshake that is answered again or the end, or it is a handshake that comes to a
-- socket which isn't settled.
use Rattle.std.proofs.Common.{◌≡◌, ℕ, true, false, List, [], ◌∷◌, Ok, Err, refl, subst}
use Rattle.std.specs.Prelude.{◌+◌, Bool, Result, Option, Some, None, not, ◌&&◌, ◌==◌, if◌then◌else◌}
use Rattle.std.proofs.lemmas.Bool.{and_parts, eqb-true}
use Rattle.udt_model.specs.declared.limits.TheConstants.{SHAKE_INTERVAL}
use Rattle.udt_model.specs.declared.addresses.Addr.{Addr}
use Rattle.udt_model.specs.declared.answers.Cause.TheVariants as cause
use Rattle.udt_model.specs.declared.answers.Failure.TheVariants as failure
use Rattle.udt_model.specs.declared.answers.Heard.{Heard}
use Rattle.udt_model.specs.declared.answers.Heard.TheVariants as heard
use Rattle.udt_model.specs.declared.answers.Origin.{Origin}
use Rattle.udt_model.specs.declared.answers.Origin.TheVariants as origin
use Rattle.udt_model.specs.declared.answers.Peer.{Peer}
use Rattle.udt_model.specs.declared.handshakes.Asked.{Asked}
use Rattle.udt_model.specs.declared.handshakes.Asked.TheVariants as asks
use Rattle.udt_model.specs.declared.handshakes.ClientSaw.{ClientSaw}
use Rattle.udt_model.specs.declared.handshakes.ClientSaw.TheVariants as client
use Rattle.udt_model.specs.declared.handshakes.MeetSaw.{MeetSaw}
use Rattle.udt_model.specs.declared.handshakes.MeetSaw.TheVariants as meet
use Rattle.udt_model.specs.declared.handshakes.Verdict.{Verdict}
use Rattle.udt_model.specs.declared.handshakes.Verdict.TheVariants as verdict
use Rattle.udt_model.specs.Phases.{Phase, Backlog, has_place}
use Rattle.udt_model.specs.Phases as phase
use Rattle.udt_model.specs.declared.packets.AckBody.{AckBody}
use Rattle.udt_model.specs.declared.packets.Flags.{Flags}
use Rattle.udt_model.specs.declared.packets.Kind.{Kind}
use Rattle.udt_model.specs.declared.packets.Kind.TheVariants as kind
use Rattle.udt_model.specs.declared.packets.Malformed.{Malformed}
use Rattle.udt_model.specs.declared.packets.Shake.{Shake}
use Rattle.udt_model.specs.declared.sockets.Counters.{Counters}
use Rattle.udt_model.specs.declared.sockets.SentAck.{SentAck}
use Rattle.udt_model.specs.Addresses.{same_addr}
use Rattle.udt_model.specs.Arrivals.{has_bad_length, heard_now, emitted_by_gap, emitted_by_ack2, acked_so, reported_so, confirmed_so, arrived_so, dropped_so, drop_as, on_block, on_own, on_connected, is_own, packet_in, on_read}
use Rattle.udt_model.specs.Connections.{shake_emission}
use Rattle.udt_model.specs.Counted.{count_stale, count_control, count_foreign, on_stale, on_control}
use Rattle.udt_model.specs.Events.{Outcome, answered, DidHear}
use Rattle.udt_model.specs.Handshakes.{Connecting, Meeting, asked, judged, client_request, client_saw, meet_saw}
use Rattle.udt_model.specs.Losses.{LostRange}
use Rattle.udt_model.specs.Opening.{connected}
use Rattle.udt_model.specs.Rate.{Ways}
use Rattle.udt_model.specs.ReceiveHalf.{block_answer, after_block, gap_before, drop_range, with_taken, after_taking, taken_as, after_drop, drop_answer}
use Rattle.udt_model.specs.ReceiveReports.{after_ack2, round_trip_to}
use Rattle.udt_model.specs.SendReports.{Acking, Acks, IsStale, acking, acked_number, after_ack, round_trip_after, entering, after_nak}
use Rattle.udt_model.specs.Shaking.{answer_again, judged_so, listener_hears, on_listening, answer_to, on_shake_again, answers_again, meet_answer, agreement_to, client_hears, on_connecting, meeter_hears, on_meeting}
use Rattle.udt_model.specs.State.{State, Emission}
use Rattle.udt_model.specs.Timing.{last_under}
use Rattle.udt_model.specs.Wire.{Packet, WireRange, Block, Handshake, KeepAlive, Ack, Nak, Shutdown, Ack2, DropAsk}
use Rattle.udt_model.proofs.AddressLemmas.{same_addr-is}
use Rattle.udt_model.proofs.PhaseLemmas.{is_settled}

module _ {C : Type 0} where
  -- what a handshake does to a socket that isn't settled and gets no connection by it: the phase, the peer and the
  -- origin that it leaves, what is answered and what is emitted
  pub data Shakes (s : State C) (from : Addr) (result : Result Packet Malformed) : Phase → Peer → Origin → Heard
      → List Emission → Type 0 where
    GivesCookie : (b : Backlog) → (stamp : ℕ) → (shake answer : Shake) → s.phase ≡ phase.Listening b
        → result ≡ Ok (Handshake stamp 0 shake) → asked shake.ask ≡ asks.Requests → (shake.id == 0) ≡ false
        → judged b.listening shake from s.last (has_place b) ≡ verdict.Cookie answer
        → Shakes s from result s.phase s.peer s.origin heard.Cookie (shake_emission s from shake.id answer ∷ [])
    Promises : (b : Backlog) → (stamp : ℕ) → (shake : Shake) → s.phase ≡ phase.Listening b
        → result ≡ Ok (Handshake stamp 0 shake) → asked shake.ask ≡ asks.Requests → (shake.id == 0) ≡ false
        → judged b.listening shake from s.last (has_place b) ≡ verdict.Request
        → Shakes s from result (phase.Listening (record b { promised = b.promised + 1 })) s.peer s.origin heard.Request
        []
    Refuses : (b : Backlog) → (stamp : ℕ) → (shake answer : Shake) → s.phase ≡ phase.Listening b
        → result ≡ Ok (Handshake stamp 0 shake) → asked shake.ask ≡ asks.Requests → (shake.id == 0) ≡ false
        → judged b.listening shake from s.last (has_place b) ≡ verdict.Reject answer
        → Shakes s from result s.phase s.peer s.origin heard.Reject (shake_emission s from shake.id answer ∷ [])
    TakesCookie : (c : Connecting) → (again stamp dest : ℕ) → (shake : Shake) → s.phase ≡ phase.Connecting c again
        → result ≡ Ok (Handshake stamp dest shake) → client_saw c dest shake from ≡ client.Cookie
        → Shakes s from result
        (phase.Connecting (record c { cookie = shake.cookie }) (s.last + SHAKE_INTERVAL))
        s.peer s.origin heard.Cookie
        (shake_emission s c.caller.to 0 (client_request (record c { cookie = shake.cookie })) ∷ [])
    IsRefused : (c : Connecting) → (again stamp dest : ℕ) → (shake : Shake) → s.phase ≡ phase.Connecting c again
        → result ≡ Ok (Handshake stamp dest shake) → client_saw c dest shake from ≡ client.Rejected
        → Shakes s from result (phase.Failed failure.Rejected) s.peer s.origin heard.Rejected []
    Adopts : (m : Meeting) → (again stamp dest : ℕ) → (shake : Shake) → (peer : Peer) → s.phase ≡ phase.Meeting m again
        → result ≡ Ok (Handshake stamp dest shake) → meet_saw m dest shake from ≡ meet.Adopted peer
        → Shakes s from result
        (phase.Meeting (record m { adopted = Some peer }) again)
        peer origin.Rendezvous heard.Adopted
        (meet_answer s (record m { adopted = Some peer }) (Some peer))
    AnswersAdopted : (m : Meeting) → (again stamp dest : ℕ) → (shake : Shake) → s.phase ≡ phase.Meeting m again
        → result ≡ Ok (Handshake stamp dest shake) → meet_saw m dest shake from ≡ meet.Answered
        → Shakes s from result s.phase s.peer s.origin heard.Answered (meet_answer s m m.adopted)

module _ {C : Type 0} (w : Ways C) where
  -- a handshake that connects a socket: with this peer, by this origin, and what is emitted
  pub data Links (s : State C) (from : Addr) (result : Result Packet Malformed) : Peer → Origin → List Emission
      → Type 0 where
    ByListener : (c : Connecting) → (again stamp dest : ℕ) → (shake : Shake) → (peer : Peer)
        → s.phase ≡ phase.Connecting c again
        → result ≡ Ok (Handshake stamp dest shake) → client_saw c dest shake from ≡ client.Connected peer
        → Links s from result peer origin.Listener []
    ByMeeting : (m : Meeting) → (again stamp dest : ℕ) → (shake : Shake) → (peer : Peer)
        → s.phase ≡ phase.Meeting m again
        → result ≡ Ok (Handshake stamp dest shake) → meet_saw m dest shake from ≡ meet.Connected peer
        → Links s from result peer origin.Rendezvous (agreement_to (connected w s peer origin.Rendezvous)
        (asked shake.ask))

  -- what has to be shown of the outcomes that a readable packet may have where no connection stands
  pub record OfHandshakes (s : State C) (from : Addr) (result : Result Packet Malformed) (P : Outcome C → Type 0)
      : Type 0 where
    -- no use is made of it
    pub stale : P (on_stale s)
    -- it is a handshake that comes to a socket which isn't settled, and gets no connection by it: the halves stay
    pub shaken : (next : Phase) (peer : Peer) (from_whom : Origin) (answer : Heard) (emissions : List Emission)
        → (answer ≡ heard.Placed → ⊥) → (answer ≡ heard.Dropped → ⊥) → is_settled s.phase ≡ false
        → Shakes s from result next peer from_whom answer emissions
        → P (on_control (record s { phase = next; peer = peer; origin = from_whom }) answer emissions)
    -- it is a handshake that connects the socket
    pub linked : (peer : Peer) (from_whom : Origin) (emissions : List Emission) → is_settled s.phase ≡ false
        → Links s from result peer from_whom emissions
        → P (on_control (connected w s peer from_whom) heard.Connected emissions)

  -- what has to be shown of the outcomes that an arrival may have, so that it holds of each arrival
  pub record OfArrivals (s : State C) (from : Addr) (result : Result Packet Malformed) (P : Outcome C → Type 0) : Type 0 where
    -- it changes nothing but a count
    pub passed : (counters : Counters) (answer : Heard) → (answer ≡ heard.Placed → ⊥)
        → P (answered (record s { counters = counters }) (DidHear answer))
    -- it is an arrival from the peer, and no more
    pub noticed : (counters : Counters) (answer : Heard) → (answer ≡ heard.Placed → ⊥) → s.phase ≡ phase.Connected
        → P (answered (record (heard_now s) { counters = counters }) (DidHear answer))
    -- it carries a block
    pub brought : (number : ℕ) (flags : Flags) (stamp : ℕ) (bytes : List ℕ) → s.phase ≡ phase.Connected → from ≡ s.peer.addr
        → result ≡ Ok (Block number flags stamp s.own bytes)
        → P (arrived_so
        (record (heard_now s) { receiving = after_block s.receiving s.last number flags bytes })
        (block_answer s.receiving number))
    -- it asks to drop a message, of which it takes these offsets
    pub dropped : (message stamp first last : ℕ) (range : LostRange) → s.phase ≡ phase.Connected → from ≡ s.peer.addr
        → result ≡ Ok (DropAsk message stamp s.own first last) → s.kind ≡ kind.Message
        → drop_range s.receiving first last ≡ Some range
        → P (on_control
        (record (heard_now s) { receiving = with_taken s.receiving s.last range })
        heard.Dropped
        (emitted_by_gap (heard_now s) (gap_before s.receiving.top range.first)))
    -- it acknowledges all before an offset
    pub acknowledged : (number stamp : ℕ) (body : AckBody) (offset : ℕ) → s.phase ≡ phase.Connected → from ≡ s.peer.addr
        → result ≡ Ok (Ack number stamp s.own body) → acking s.sending (acked_number body) ≡ Acks offset
        → P (on_control
        (record (heard_now s) { sending = after_ack w s.sending s.rtt body; rtt = round_trip_after s.rtt body (Acks offset) })
        heard.Ack
        (emitted_by_ack2 (heard_now s) number body))
    -- it reports losses
    pub reported : (stamp : ℕ) (ranges : List WireRange) → s.phase ≡ phase.Connected → from ≡ s.peer.addr
        → result ≡ Ok (Nak stamp s.own ranges)
        → P (on_control (record (heard_now s) { sending = after_nak w s.sending s.rtt ranges }) heard.Nak [])
    -- it answers an ACK
    pub confirmed : (number : ℕ) (ack : SentAck) → s.phase ≡ phase.Connected → last_under number s.receiving.history ≡ Some ack
        → P (on_control
        (record (heard_now s) { receiving = after_ack2 s.receiving number; rtt = round_trip_to s.last s.rtt (Some ack) })
        heard.Ack2
        [])
    -- the peer has ended
    pub ended : s.phase ≡ phase.Connected
        → P (on_control (record (heard_now s) { phase = phase.Broken cause.PeerShutdown }) heard.Shutdown [])
    -- it is a handshake of the peer, which is answered again
    pub again : (stamp dest : ℕ) (shake : Shake) (answer : Asked) → s.phase ≡ phase.Connected → from ≡ s.peer.addr
        → result ≡ Ok (Handshake stamp dest shake) → shake.id ≡ s.peer.id → answer_again s.origin (asked shake.ask)
        ≡ Some answer
        → P (on_control (heard_now s) heard.Answered (answer_to s answer ∷ []))
    -- it is a handshake that comes to a socket which isn't settled, and gets no connection by it: the halves stay
    pub shaken : (next : Phase) (peer : Peer) (from_whom : Origin) (answer : Heard) (emissions : List Emission)
        → (answer ≡ heard.Placed → ⊥) → (answer ≡ heard.Dropped → ⊥) → is_settled s.phase ≡ false
        → Shakes s from result next peer from_whom answer emissions
        → P (on_control (record s { phase = next; peer = peer; origin = from_whom }) answer emissions)
    -- it is a handshake that connects the socket
    pub linked : (peer : Peer) (from_whom : Origin) (emissions : List Emission) → is_settled s.phase ≡ false
        → Links s from result peer from_whom emissions
        → P (on_control (connected w s peer from_whom) heard.Connected emissions)

  module _ (s : State C) (from : Addr) (result : Result Packet Malformed) (P : Outcome C → Type 0)
      (cases : OfArrivals s from result P)
      (connected : s.phase ≡ phase.Connected) where
    block-shows : (number : ℕ) (flags : Flags) (stamp dest : ℕ) (bytes : List ℕ) → from ≡ s.peer.addr → dest ≡ s.own
        → result ≡ Ok (Block number flags stamp dest bytes) → P (on_block (heard_now s) number flags bytes)
    block-shows number flags stamp dest bytes sender own is =
        let carries = subst (λ (id : ℕ). result ≡ Ok (Block number flags stamp id bytes)) own is in
        elim (has_bad_length s.receiving bytes) as (λ bad. P (
        if bad
        then answered (record (heard_now s) { counters = count_stale s.counters }) (DidHear heard.BadLength)
        else arrived_so
        (record (heard_now s) { receiving = after_block s.receiving s.last number flags bytes })
        (block_answer s.receiving number))) [
          | true ↦ cases.noticed (count_stale s.counters) heard.BadLength (λ same. cc) connected
          | false ↦ cases.brought number flags stamp bytes connected sender carries
        ]

    range-shows : (message stamp dest first last : ℕ) (found : Option LostRange) → from ≡ s.peer.addr → dest ≡ s.own
        → result ≡ Ok (DropAsk message stamp dest first last) → s.kind ≡ kind.Message → drop_range s.receiving first last ≡ found
        → P (dropped_so (heard_now s) (after_taking s.receiving s.last found) (taken_as s.receiving found))
    range-shows message stamp dest first last None sender own is messages found =
        cases.noticed (count_stale s.counters) heard.Stale (λ same. cc) connected
    range-shows message stamp dest first last (Some range) sender own is messages found =
        let asks = subst (λ (id : ℕ). result ≡ Ok (DropAsk message stamp id first last)) own is in
        cases.dropped message stamp first last range connected sender asks messages found

    drop-shows : (message stamp dest first last : ℕ) (k : Kind) → from ≡ s.peer.addr → dest ≡ s.own
        → result ≡ Ok (DropAsk message stamp dest first last) → s.kind ≡ k → P (drop_as (heard_now s) first last k)
    unfolding after_drop drop_answer
    drop-shows message stamp dest first last kind.Stream sender own is carries =
        cases.noticed (count_stale s.counters) heard.Stale (λ same. cc) connected
    drop-shows message stamp dest first last kind.Message sender own is carries =
        range-shows message stamp dest first last (drop_range s.receiving first last) sender own is carries refl

    ack-shows : (number stamp dest : ℕ) (body : AckBody) (a : Acking) → from ≡ s.peer.addr → dest ≡ s.own
        → result ≡ Ok (Ack number stamp dest body) → acking s.sending (acked_number body) ≡ a → P (acked_so w (heard_now s) number body a)
    ack-shows number stamp dest body (Acks offset) sender own is acks =
        let carries = subst (λ (id : ℕ). result ≡ Ok (Ack number stamp id body)) own is in
        cases.acknowledged number stamp body offset connected sender carries acks
    ack-shows number stamp dest body IsStale sender own is acks = cases.noticed (count_stale s.counters) heard.Stale (λ same. cc) connected

    nak-shows : (stamp dest : ℕ) (ranges : List WireRange) (entered : List LostRange) → from ≡ s.peer.addr → dest ≡ s.own
        → result ≡ Ok (Nak stamp dest ranges) → P (reported_so w (heard_now s) ranges entered)
    nak-shows stamp dest ranges [] sender own is = cases.noticed (count_stale s.counters) heard.Stale (λ same. cc) connected
    nak-shows stamp dest ranges (entered ∷ others) sender own is =
        cases.reported stamp ranges connected sender (subst (λ (id : ℕ). result ≡ Ok (Nak stamp id ranges)) own is)

    ack2-shows : (number : ℕ) (found : Option SentAck) → last_under number s.receiving.history ≡ found → P (confirmed_so (heard_now s) number found)
    ack2-shows number None is = cases.noticed (count_stale s.counters) heard.Stale (λ same. cc) connected
    ack2-shows number (Some ack) is = cases.confirmed number ack connected is

    again-shows : (stamp dest : ℕ) (shake : Shake) (answer : Option Asked) → from ≡ s.peer.addr
        → result ≡ Ok (Handshake stamp dest shake) → shake.id ≡ s.peer.id → answer_again s.origin (asked shake.ask)
        ≡ answer
        → P (answers_again (heard_now s) answer)
    again-shows stamp dest shake None sender is same answers = cases.noticed (count_stale s.counters) heard.Stale
        (λ same. cc) connected
    again-shows stamp dest shake (Some answer) sender is same answers =
        cases.again stamp dest shake answer connected sender is same answers

    shake-shows : (stamp dest : ℕ) (shake : Shake) → from ≡ s.peer.addr → result ≡ Ok (Handshake stamp dest shake)
        → P (on_shake_again (heard_now s) shake)
    shake-shows stamp dest shake sender is =
        elim (shake.id == s.peer.id) as (λ own. (shake.id == s.peer.id) ≡ own → P (
        if own
        then answers_again (heard_now s) (answer_again s.origin (asked shake.ask))
        else on_stale (heard_now s))) [
          | true ↦ λ own. again-shows stamp dest shake _ sender is (eqb-true shake.id s.peer.id own) refl
          | false ↦ λ own. cases.noticed (count_stale s.counters) heard.Stale (λ same. cc) connected
        ] refl

    own-shows : (packet : Packet) → result ≡ Ok packet → is_own s from packet ≡ true → P (on_own w (heard_now s) packet)
    own-shows (Block number flags stamp dest bytes) is own =
        let parts = and_parts (same_addr from s.peer.addr) (dest == s.own) own in
        block-shows number flags stamp dest bytes (same_addr-is from s.peer.addr parts.0) (eqb-true dest s.own parts.1) is
    own-shows (Handshake stamp dest shake) is own =
        let parts = and_parts (same_addr from s.peer.addr) _ own in
        shake-shows stamp dest shake (same_addr-is from s.peer.addr parts.0) is
    own-shows (KeepAlive stamp dest) is own = cases.noticed (count_control s.counters) heard.Alive (λ same. cc) connected
    own-shows (Ack number stamp dest body) is own =
        let parts = and_parts (same_addr from s.peer.addr) (dest == s.own) own in
        ack-shows number stamp dest body _ (same_addr-is from s.peer.addr parts.0) (eqb-true dest s.own parts.1) is refl
    own-shows (Nak stamp dest ranges) is own =
        let parts = and_parts (same_addr from s.peer.addr) (dest == s.own) own in
        nak-shows stamp dest ranges (entering s.sending ranges) (same_addr-is from s.peer.addr parts.0) (eqb-true dest s.own parts.1) is
    own-shows (Shutdown stamp dest) is own = cases.ended connected
    own-shows (Ack2 number stamp dest) is own = ack2-shows number (last_under number s.receiving.history) refl
    own-shows (DropAsk message stamp dest first last) is own =
        let parts = and_parts (same_addr from s.peer.addr) (dest == s.own) own in
        drop-shows message stamp dest first last s.kind (same_addr-is from s.peer.addr parts.0) (eqb-true dest s.own parts.1) is refl

    connected-shows : (packet : Packet) → result ≡ Ok packet → P (on_connected w s from packet)
    connected-shows packet is =
        elim (is_own s from packet) as (λ own. is_own s from packet ≡ own → P (
        if own
        then on_own w (heard_now s) packet
        else answered (record s { counters = count_foreign s.counters }) (DidHear heard.Foreign))) [
          | true ↦ λ own. own-shows packet is own
          | false ↦ λ own. cases.passed (count_foreign s.counters) heard.Foreign (λ same. cc)
        ] refl

  module _ (s : State C) (from : Addr) (result : Result Packet Malformed) (P : Outcome C → Type 0)
      (cases : OfHandshakes s from result P) where
    -- ---- a listener

    judged-shows : (b : Backlog) (stamp : ℕ) (shake : Shake) (v : Verdict) → s.phase ≡ phase.Listening b
        → result ≡ Ok (Handshake stamp 0 shake) → asked shake.ask ≡ asks.Requests → (shake.id == 0) ≡ false
        → judged b.listening shake from s.last (has_place b) ≡ v → P (judged_so s b from shake.id v)
    judged-shows b stamp shake (verdict.Cookie answer) is reads asks named judges =
        cases.shaken _ _ _ _ _ (λ same. cc) (λ same. cc) (rw is refl)
        (GivesCookie b stamp shake answer is reads asks named judges)
    judged-shows b stamp shake verdict.Request is reads asks named judges =
        cases.shaken _ _ _ _ _ (λ same. cc) (λ same. cc) (rw is refl)
        (Promises b stamp shake is reads asks named judges)
    judged-shows b stamp shake (verdict.Reject answer) is reads asks named judges =
        cases.shaken _ _ _ _ _ (λ same. cc) (λ same. cc) (rw is refl)
        (Refuses b stamp shake answer is reads asks named judges)

    not_true : (x : Bool) → not x ≡ true → x ≡ false
    not_true true is = cc
    not_true false is = refl

    request-shows : (b : Backlog) (stamp dest : ℕ) (shake : Shake) → s.phase ≡ phase.Listening b
        → result ≡ Ok (Handshake stamp dest shake) → asked shake.ask ≡ asks.Requests
        → P (listener_hears s b from dest shake asks.Requests)
    request-shows b stamp dest shake is reads asks =
        elim ((dest == 0) && not (shake.id == 0)) as (λ fits. ((dest == 0) && not (shake.id == 0)) ≡ fits → P (
        if fits
        then judged_so s b from shake.id (judged b.listening shake from s.last (has_place b))
        else on_stale s)) [
          | true ↦ λ fits.
              let parts = and_parts (dest == 0) (not (shake.id == 0)) fits in
              judged-shows b stamp shake _ is
              (subst (λ (id : ℕ). result ≡ Ok (Handshake stamp id shake)) (eqb-true dest 0 parts.0) reads) asks
              (not_true (shake.id == 0) parts.1) refl
          | false ↦ λ fits. cases.stale
        ] refl

    listener-shows : (b : Backlog) (stamp dest : ℕ) (shake : Shake) (a : Asked) → s.phase ≡ phase.Listening b
        → result ≡ Ok (Handshake stamp dest shake) → asked shake.ask ≡ a → P (listener_hears s b from dest shake a)
    listener-shows b stamp dest shake asks.Requests is reads asks = request-shows b stamp dest shake is reads asks
    listener-shows b stamp dest shake _ is reads asks = cases.stale

    -- ---- a client

    client-shows : (c : Connecting) (again stamp dest : ℕ) (shake : Shake) (saw : ClientSaw)
        → s.phase ≡ phase.Connecting c again
        → result ≡ Ok (Handshake stamp dest shake) → client_saw c dest shake from ≡ saw
        → P (client_hears w s c shake saw)
    client-shows c again stamp dest shake client.Cookie is reads sees =
        cases.shaken _ _ _ _ _ (λ same. cc) (λ same. cc) (rw is refl)
        (TakesCookie c again stamp dest shake is reads sees)
    client-shows c again stamp dest shake (client.Connected peer) is reads sees =
        cases.linked peer origin.Listener [] (rw is refl) (ByListener c again stamp dest shake peer is reads sees)
    client-shows c again stamp dest shake client.Rejected is reads sees =
        cases.shaken _ _ _ _ _ (λ same. cc) (λ same. cc) (rw is refl) (IsRefused c again stamp dest shake is reads sees)
    client-shows c again stamp dest shake client.Stale is reads sees = cases.stale

    -- ---- a rendezvous

    meeter-shows : (m : Meeting) (again stamp dest : ℕ) (shake : Shake) (saw : MeetSaw)
        → s.phase ≡ phase.Meeting m again
        → result ≡ Ok (Handshake stamp dest shake) → meet_saw m dest shake from ≡ saw
        → P (meeter_hears w s m again shake saw)
    meeter-shows m again stamp dest shake (meet.Adopted peer) is reads sees =
        cases.shaken _ _ _ _ _ (λ same. cc) (λ same. cc) (rw is refl)
        (Adopts m again stamp dest shake peer is reads sees)
    meeter-shows m again stamp dest shake meet.Answered is reads sees =
        cases.shaken _ _ _ _ _ (λ same. cc) (λ same. cc) (rw is refl)
        (AnswersAdopted m again stamp dest shake is reads sees)
    meeter-shows m again stamp dest shake (meet.Connected peer) is reads sees =
        cases.linked peer origin.Rendezvous _ (rw is refl) (ByMeeting m again stamp dest shake peer is reads sees)
    meeter-shows m again stamp dest shake meet.Stale is reads sees = cases.stale

    -- ---- packets to a socket that isn't settled

    listening-shows : (b : Backlog) (packet : Packet) → s.phase ≡ phase.Listening b → result ≡ Ok packet
        → P (on_listening s b from packet)
    listening-shows b (Handshake stamp dest shake) is reads = listener-shows b stamp dest shake (asked shake.ask) is
        reads refl
    listening-shows b _ is reads = cases.stale

    connecting-shows : (c : Connecting) (again : ℕ) (packet : Packet) → s.phase ≡ phase.Connecting c again
        → result ≡ Ok packet
        → P (on_connecting w s c from packet)
    connecting-shows c again (Handshake stamp dest shake) is reads =
        client-shows c again stamp dest shake (client_saw c dest shake from) is reads refl
    connecting-shows c again _ is reads = cases.stale

    meeting-shows : (m : Meeting) (again : ℕ) (packet : Packet) → s.phase ≡ phase.Meeting m again → result ≡ Ok packet
        → P (on_meeting w s m again from packet)
    meeting-shows m again (Handshake stamp dest shake) is reads =
        meeter-shows m again stamp dest shake (meet_saw m dest shake from) is reads refl
    meeting-shows m again _ is reads = cases.stale

    -- what holds of all these outcomes holds of each packet where no connection stands
    pub packet-shows : (packet : Packet) (p : Phase) → result ≡ Ok packet → s.phase ≡ p
        → (p ≡ phase.Connected → P (on_connected w s from packet))
        → P (packet_in w s from packet p)
    packet-shows packet phase.Connected reads is stands = stands refl
    packet-shows packet (phase.Listening b) reads is stands = listening-shows b packet is reads
    packet-shows packet (phase.Connecting c again) reads is stands = connecting-shows c again packet is reads
    packet-shows packet (phase.Meeting m again) reads is stands = meeting-shows m again packet is reads
    packet-shows packet _ reads is stands = cases.stale

  -- what holds of all these outcomes holds of each arrival
  pub arrival-shows : (s : State C) (from : Addr) (P : Outcome C → Type 0) (result : Result Packet Malformed)
      → OfArrivals s from result P
      → P (on_read w s from result)
  arrival-shows s from P (Err why) cases = cases.passed _ (heard.Malformed why) (λ same. cc)
  arrival-shows s from P (Ok packet) cases =
      packet-shows s from (Ok packet) P (record {
        stale = cases.passed (count_stale s.counters) heard.Stale (λ same. cc);
        shaken = cases.shaken;
        linked = cases.linked;
      }) packet s.phase refl refl (λ connected. connected-shows s from (Ok packet) P cases connected packet refl)
