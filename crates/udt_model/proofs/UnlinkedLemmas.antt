-- What a socket does that was never connected: it turns from phase to phase, emits handshakes and gives nothing, until
-- a handshake connects it.
use Rattle.std.proofs.Common.{◌≡◌, ℕ, zero, suc, Bool, true, false, List, [], ◌∷◌, Ok, Err, refl, ap, ◌∙◌, arith}
use Rattle.std.specs.Prelude.{Option, None, Result, ◌==◌, length, take, if◌then◌else◌}
use Rattle.std.proofs.lemmas.Bool.{ne_eqb}
use Rattle.udt_model.specs.declared.addresses.Addr.{Addr}
use Rattle.udt_model.specs.declared.answers.Heard.{Heard}
use Rattle.udt_model.specs.declared.answers.Heard.TheVariants as heard
use Rattle.udt_model.specs.declared.answers.Origin.{Origin}
use Rattle.udt_model.specs.declared.answers.Peer.{Peer}
use Rattle.udt_model.specs.declared.answers.Refusal.{Refusal}
use Rattle.udt_model.specs.declared.packets.Config.{Config}
use Rattle.udt_model.specs.declared.packets.Kind.{Kind}
use Rattle.udt_model.specs.declared.packets.Kind.TheVariants as kind
use Rattle.udt_model.specs.declared.packets.Malformed.{Malformed}
use Rattle.udt_model.specs.declared.sockets.Counters.{Counters}
use Rattle.udt_model.specs.Arrivals.{on_read}
use Rattle.udt_model.specs.Calls.{closed_from, received_by, answer_with, answer_message, send_in, send_as, gives, recv_in, recv_as, send_message_in, send_message_as, gives_message, recv_message_in, recv_message_as, pack_in}
use Rattle.udt_model.specs.Connections.{begun, phase_after, is_backlog, has_port, with_offer, phase_after_accept, phase_after_offer, phase_after_withdraw, phase_without_port, listens, asks, meets, repeats}
use Rattle.udt_model.specs.Counted.{on_control}
use Rattle.udt_model.specs.Events.{Act, Listen, Connect, Meet, Accept, Shake, Offer, Withdraw, Send, Recv, SendMessage, RecvMessage, Pack, Tick, Close, PortDown, Measure, Arrive, Reply, Sent, Received, SentMessage, ReceivedMessage, DidHear, DidTick, Outcome, answered}
use Rattle.udt_model.specs.Handshakes.{Connecting, Meeting}
use Rattle.udt_model.specs.History.{taken_by, given_by, placed_by, asked_by, shown_by, dropped_by}
use Rattle.udt_model.specs.Opening.{connected}
use Rattle.udt_model.specs.Phases.{Phase, Backlog, Link, Stands, Lost, Absent, link_of}
use Rattle.udt_model.specs.Phases as phase
use Rattle.udt_model.specs.Rate.{Ways}
use Rattle.udt_model.specs.ReceiveBlocks.{WholeMessage, next_message, bytes_from, beginning, message_from}
use Rattle.udt_model.specs.ReceiveHalf.{Receiving, idle_receiving, after_receive, after_receive_message}
use Rattle.udt_model.specs.SendHalf.{idle_sending}
use Rattle.udt_model.specs.State.{State, Emission}
use Rattle.udt_model.specs.Step.{on_act}
use Rattle.udt_model.specs.Ticks.{tick_in}
use Rattle.udt_model.specs.Timing.{unmeasured}
use Rattle.udt_model.specs.Wire.{Packet, read}
use Rattle.udt_model.proofs.ArrivalLemmas.{Shakes, Links, packet-shows}
use Rattle.udt_model.proofs.PhaseLemmas.{is_settled, speaks, mute-absent, repeats-show}

-- ---- what is answered

-- no reply of these tells that anything was taken, given, placed, asked, shown or dropped
abbrev pub is_silent : Reply → Bool
is_silent (Sent (Ok count)) = false
is_silent (Received (Ok bytes)) = false
is_silent (SentMessage (Ok count)) = false
is_silent (ReceivedMessage (Ok bytes)) = false
is_silent (DidHear heard.Placed) = false
is_silent (DidHear heard.Dropped) = false
is_silent other = true

-- what an event tells that does nothing of it
pub record TellsNothing (C : Type 0) (act : Act) (reply : Reply) : Type 0 where
  pub taken : taken_by act reply ≡ []
  pub given : given_by reply ≡ []
  pub placed : (s : State C) → placed_by s act reply ≡ []
  pub asked : (s : State C) → asked_by s act reply ≡ []
  pub shown : (s : State C) → shown_by s act reply ≡ []
  pub dropped : (s : State C) → dropped_by s act reply ≡ []

taken-silent : (act : Act) (reply : Reply) → is_silent reply ≡ true → taken_by act reply ≡ []
taken-silent (Send bytes) (Sent (Ok count)) silent = absurd (cc)
taken-silent (SendMessage ttl order bytes) (SentMessage (Ok count)) silent = absurd (cc)
taken-silent _ _ silent = refl

given-silent : (reply : Reply) → is_silent reply ≡ true → given_by reply ≡ []
given-silent (Received (Ok bytes)) silent = absurd (cc)
given-silent _ silent = refl

heard-silent : (answer : Heard) → (answer ≡ heard.Placed → ⊥) → (answer ≡ heard.Dropped → ⊥)
    → is_silent (DidHear answer) ≡ true
heard-silent heard.Placed placed dropped = absurd (placed refl)
heard-silent heard.Dropped placed dropped = absurd (dropped refl)
heard-silent _ placed dropped = refl

module _ {C : Type 0} where
  placed-silent : (s : State C) (act : Act) (reply : Reply) → is_silent reply ≡ true → placed_by s act reply ≡ []
  placed-silent s (Arrive from bytes) (DidHear heard.Placed) silent = absurd (cc)
  placed-silent s _ _ silent = refl

  dropped-silent : (s : State C) (act : Act) (reply : Reply) → is_silent reply ≡ true → dropped_by s act reply ≡ []
  dropped-silent s (Arrive from bytes) (DidHear heard.Dropped) silent = absurd (cc)
  dropped-silent s _ _ silent = refl

  asked-silent : (s : State C) (act : Act) (reply : Reply) → is_silent reply ≡ true → asked_by s act reply ≡ []
  asked-silent s (SendMessage ttl order bytes) (SentMessage (Ok zero)) silent = absurd (cc)
  asked-silent s (SendMessage ttl order bytes) (SentMessage (Ok (suc count))) silent = absurd (cc)
  asked-silent s _ _ silent = refl

  shown-silent : (s : State C) (act : Act) (reply : Reply) → is_silent reply ≡ true → shown_by s act reply ≡ []
  shown-silent s (RecvMessage zero) (ReceivedMessage (Ok bytes)) silent = absurd (cc)
  shown-silent s (RecvMessage (suc room)) (ReceivedMessage (Ok bytes)) silent = absurd (cc)
  shown-silent s _ _ silent = refl

  -- a silent reply tells of nothing, whatever the act
  pub silent-tells : (act : Act) (reply : Reply) → is_silent reply ≡ true → TellsNothing C act reply
  silent-tells act reply silent = record {
    taken = taken-silent act reply silent;
    given = given-silent reply silent;
    placed = λ s. placed-silent s act reply silent;
    asked = λ s. asked-silent s act reply silent;
    shown = λ s. shown-silent s act reply silent;
    dropped = λ s. dropped-silent s act reply silent;
  }

-- ---- idle halves

-- no bytes
abbrev none : List ℕ
none = []

received-none : (room : ℕ) → take room none ≡ none
received-none zero = refl
received-none (suc room) = refl

-- no byte waits in an idle half
pub idle-received : (config : Config) (start room : ℕ) → received_by (idle_receiving config start) room ≡ []
unfolding bytes_from
idle-received config start room = received-none room

-- a byte that doesn't wait leaves no trace, nor does a message
pub idle-after_receive : (config : Config) (start : ℕ) → after_receive (idle_receiving config start) 0
    ≡ idle_receiving config start
unfolding beginning
idle-after_receive config start = refl

-- no message is readable in it
pub idle-next : (config : Config) (start : ℕ) → next_message (idle_receiving config start).blocks ≡ None
unfolding message_from
idle-next config start = refl

-- so a receive of one leaves it as it was
pub idle-after_message : (config : Config) (start room : ℕ) → after_receive_message (idle_receiving config start) room
    ≡ idle_receiving config start
unfolding message_from
idle-after_message config start room =
    elim (room == 0) as (λ empty. (if empty then idle_receiving config start else idle_receiving config start)
    ≡ idle_receiving config start) [
      | true ↦ refl
      | false ↦ refl
    ]

given-none : (why : Refusal) (room : ℕ) → given_by (Received (answer_with why room [])) ≡ []
given-none why room =
    elim (room == 0) as
    (λ empty. given_by (Received (if empty then Ok [] else (if length none == 0 then Err why else Ok []))) ≡ []) [
      | true ↦ refl
      | false ↦ refl
    ]

-- ---- where it turns

module _ {C : Type 0} where
  -- the phases to which calls and the time turn a socket that was never connected
  pub data Turns (s : State C) : Phase → Type 0 where
    Listens : (most : ℕ) → (secret : List ℕ) → s.phase ≡ phase.Opened → Turns s (listens s most secret)
    Asks : (to : Addr) → s.phase ≡ phase.Opened → Turns s (asks s to)
    Meets : (to : Addr) → s.phase ≡ phase.Opened → Turns s (meets s to)
    ListensOn : (b next : Backlog) → s.phase ≡ phase.Listening b → next.listening ≡ b.listening → next.most ≡ b.most
        → Turns s (phase.Listening next)
    AsksOn : (c : Connecting) → (again next : ℕ) → s.phase ≡ phase.Connecting c again
        → Turns s (phase.Connecting c next)
    MeetsOn : (m : Meeting) → (again next : ℕ) → s.phase ≡ phase.Meeting m again → Turns s (phase.Meeting m next)
    Ends : (next : Phase) → is_settled next ≡ true → speaks next ≡ false → Turns s next
    Stays : (next : Phase) → s.phase ≡ next → Turns s next

  begun-turns : (s : State C) (fits : Bool) (p next : Phase) → s.phase ≡ p → (s.phase ≡ phase.Opened → Turns s next)
      → Turns s (phase_after (begun fits p) next p)
  begun-turns s false p next is turns = Stays p is
  begun-turns s true phase.Opened next is turns = turns is
  begun-turns s true _ next is turns = Stays _ is

  accept-turns : (s : State C) (p : Phase) → s.phase ≡ p → Turns s (phase_after_accept p)
  accept-turns s (phase.Listening b) is = ListensOn b _ is refl refl
  accept-turns s _ is = Stays _ is

  offered-turns : (s : State C) (b : Backlog) (id promised : ℕ) → s.phase ≡ phase.Listening b
      → Turns s (phase.Listening (with_offer b id promised))
  offered-turns s b id zero is = Stays _ is
  offered-turns s b id (suc promised) is = ListensOn b _ is refl refl

  offer-turns : (s : State C) (id : ℕ) (p : Phase) → s.phase ≡ p → Turns s (phase_after_offer id p)
  offer-turns s id (phase.Listening b) is = offered-turns s b id b.promised is
  offer-turns s id _ is = Stays _ is

  withdraw-turns : (s : State C) (p : Phase) → s.phase ≡ p → Turns s (phase_after_withdraw p)
  withdraw-turns s (phase.Listening b) is = ListensOn b _ is refl refl
  withdraw-turns s _ is = Stays _ is

  closed-turns : (s : State C) (p : Phase) → speaks p ≡ false → Turns s (closed_from p)
  closed-turns s phase.Connected mute = absurd (cc)
  closed-turns s phase.Closing mute = absurd (cc)
  closed-turns s _ mute = Ends phase.Closed refl refl

  port-turns : (s : State C) (p : Phase) → s.phase ≡ p → speaks p ≡ false → Turns s (phase_without_port p)
  port-turns s (phase.Listening b) is mute = Ends _ refl refl
  port-turns s (phase.Connecting c again) is mute = Ends _ refl refl
  port-turns s (phase.Meeting m again) is mute = Ends _ refl refl
  port-turns s phase.Connected is mute = absurd (cc)
  port-turns s _ is mute = Stays _ is

  -- no turn connects it
  pub turns-mute : (s : State C) (next : Phase) → Turns s next → speaks s.phase ≡ false → speaks next ≡ false
  turns-mute s _ (Listens most secret is) mute = refl
  turns-mute s _ (Asks to is) mute = refl
  turns-mute s _ (Meets to is) mute = refl
  turns-mute s _ (ListensOn b next is listening most) mute = refl
  turns-mute s _ (AsksOn c again next is) mute = refl
  turns-mute s _ (MeetsOn m again next is) mute = refl
  turns-mute s _ (Ends next settled ends) mute = ends
  turns-mute s _ (Stays next is) mute = rw (← is) mute

-- ---- what it may do

module _ {C : Type 0} (w : Ways C) where
  -- a socket that was never connected, and was opened with these values at this offset
  pub record IsUnlinked (config : Config) (start : ℕ) (s : State C) : Type 0 where
    pub mute : speaks s.phase ≡ false
    pub sending : s.sending ≡ idle_sending w config start
    pub receiving : s.receiving ≡ idle_receiving config start
    pub unmeasured : s.rtt ≡ unmeasured

  -- it is so from its halves and its round trip alone
  pub unlinked-as : {config : Config} {start : ℕ} (s t : State C) → IsUnlinked config start s → speaks t.phase ≡ false
      → t.sending ≡ s.sending → t.receiving ≡ s.receiving → t.rtt ≡ s.rtt → IsUnlinked config start t
  unlinked-as s t unlinked mute sending receiving rtt = record {
    mute = mute;
    sending = sending ∙ unlinked.sending;
    receiving = receiving ∙ unlinked.receiving;
    unmeasured = rtt ∙ unlinked.unmeasured;
  }

  -- what has to be shown of the outcomes that an act may have for it, so that it holds of each act
  pub record OfUnlinked (s : State C) (act : Act) (P : Outcome C → Type 0) : Type 0 where
    -- it turns to another phase, or stays
    pub turns : (next : Phase) (reply : Reply) (emissions : List Emission) → Turns s next → TellsNothing C act reply
        → P (record { after = record s { phase = next }; reply = reply; emissions = emissions })
    -- what arrives is of no use
    pub counts : (counters : Counters) (answer : Heard) → TellsNothing C act (DidHear answer)
        → P (answered (record s { counters = counters }) (DidHear answer))
    -- a handshake arrives
    pub shaken : (from : Addr) (raw : List ℕ) (next : Phase) (peer : Peer) (from_whom : Origin) (answer : Heard)
        (emissions : List Emission)
        → act ≡ Arrive from raw → Shakes s from (read raw) next peer from_whom answer emissions
        → TellsNothing C act (DidHear answer)
        → P (on_control (record s { phase = next; peer = peer; origin = from_whom }) answer emissions)
    -- and connects it
    pub linked : (from : Addr) (raw : List ℕ) (peer : Peer) (from_whom : Origin) (emissions : List Emission)
        → act ≡ Arrive from raw → Links w s from (read raw) peer from_whom emissions
        → TellsNothing C act (DidHear heard.Connected)
        → P (on_control (connected w s peer from_whom) heard.Connected emissions)

  module _ (s : State C) (act : Act) (P : Outcome C → Type 0) (cases : OfUnlinked s act P) where
    stays-shows : (reply : Reply) → is_silent reply ≡ true → P (answered s reply)
    stays-shows reply silent = cases.turns s.phase reply [] (Stays s.phase refl) (silent-tells act reply silent)

    turned-shows : (next : Phase) (reply : Reply) → is_silent reply ≡ true → Turns s next
        → P (answered (record s { phase = next }) reply)
    turned-shows next reply silent turns = cases.turns next reply [] turns (silent-tells act reply silent)

    send-shows : (bytes : List ℕ) (link : Link) → (link ≡ Stands → ⊥) → P (send_in s bytes link)
    send-shows bytes Stands mute = absurd (mute refl)
    send-shows bytes (Lost why) mute = stays-shows _ refl
    send-shows bytes Absent mute = stays-shows _ refl

    send_as-shows : (bytes : List ℕ) (k : Kind) → (link_of s.phase ≡ Stands → ⊥) → P (send_as s bytes k)
    send_as-shows bytes kind.Stream mute = send-shows bytes (link_of s.phase) mute
    send_as-shows bytes kind.Message mute = stays-shows _ refl

    send_message-shows : (ttl : Option ℕ) (order : Bool) (bytes : List ℕ) (link : Link) → (link ≡ Stands → ⊥)
        → P (send_message_in s ttl order bytes link)
    send_message-shows ttl order bytes Stands mute = absurd (mute refl)
    send_message-shows ttl order bytes (Lost why) mute = stays-shows _ refl
    send_message-shows ttl order bytes Absent mute = stays-shows _ refl

    send_message_as-shows : (ttl : Option ℕ) (order : Bool) (bytes : List ℕ) (k : Kind) → (link_of s.phase ≡ Stands → ⊥)
        → P (send_message_as s ttl order bytes k)
    send_message_as-shows ttl order bytes kind.Stream mute = stays-shows _ refl
    send_message_as-shows ttl order bytes kind.Message mute = send_message-shows ttl order bytes (link_of s.phase) mute

    pack-shows : (link : Link) → (link ≡ Stands → ⊥) → P (pack_in w s link)
    pack-shows Stands mute = absurd (mute refl)
    pack-shows (Lost why) mute = stays-shows _ refl
    pack-shows Absent mute = stays-shows _ refl

    repeats-turns : (began again : ℕ) (next : Phase) (emission : Emission) → Turns s next
        → P (repeats s began again next emission)
    repeats-turns began again next emission turns = repeats-show s began again next emission P (record {
      fails = turned-shows _ DidTick refl (Ends _ refl refl);
      again = cases.turns next DidTick (emission ∷ []) turns (silent-tells act DidTick refl);
      waits = stays-shows DidTick refl;
    })

    tick-shows : (p : Phase) → s.phase ≡ p → speaks p ≡ false → P (tick_in w s p)
    tick-shows phase.Connected is mute = absurd (cc)
    tick-shows phase.Closing is mute = absurd (cc)
    tick-shows (phase.Connecting c again) is mute = repeats-turns c.caller.began again _ _ (AsksOn c again _ is)
    tick-shows (phase.Meeting m again) is mute = repeats-turns m.caller.began again _ _ (MeetsOn m again _ is)
    tick-shows _ is mute = stays-shows DidTick refl

  -- ---- receiving

  recv-tells : (room : ℕ) (why : Refusal) → TellsNothing C (Recv room) (Received (answer_with why room []))
  recv-tells room why = record {
    taken = refl;
    given = given-none why room;
    placed = λ s. refl;
    asked = λ s. refl;
    shown = λ s. refl;
    dropped = λ s. refl;
  }

  shown-none : (s : State C) (room : ℕ) (why : Refusal)
      → shown_by s (RecvMessage room) (ReceivedMessage (answer_message why room None)) ≡ []
  shown-none s zero why = refl
  shown-none s (suc room) why = rw (ne_eqb (suc room) 0 (λ is. omega (arith, is))) refl

  message-tells : (room : ℕ) (why : Refusal)
      → TellsNothing C (RecvMessage room) (ReceivedMessage (answer_message why room None))
  message-tells room why = record {
    taken = refl;
    given = refl;
    placed = λ s. refl;
    asked = λ s. refl;
    shown = λ s. shown-none s room why;
    dropped = λ s. refl;
  }

  module _ (config : Config) (start : ℕ) (s : State C) (P : Outcome C → Type 0)
      (unlinked : IsUnlinked config start s) where
    -- no byte waits, and no message is readable
    gives-none : (room : ℕ) (why : Refusal) (bytes : List ℕ) (next : Receiving) → bytes ≡ [] → next ≡ s.receiving
        → P (answered s (Received (answer_with why room [])))
        → P (answered (record s { receiving = next }) (Received (answer_with why room bytes)))
    gives-none room why bytes next is same shows = rw (is, same) shows

    gives-shows : (room : ℕ) (why : Refusal) → OfUnlinked s (Recv room) P → P (gives s room why)
    gives-shows room why cases =
        let none_waits : received_by s.receiving room ≡ [] = rw unlinked.receiving (idle-received config start room) in
        let stays : after_receive s.receiving 0 ≡ s.receiving = rw unlinked.receiving (idle-after_receive config start)
        in
        gives-none room why _ _ none_waits (ap (λ (bytes : List ℕ). after_receive s.receiving (length bytes)) none_waits
        ∙ stays)
        (cases.turns s.phase (Received (answer_with why room [])) [] (Stays s.phase refl) (recv-tells room why))

    recv-shows : (room : ℕ) (link : Link) → (link ≡ Stands → ⊥) → OfUnlinked s (Recv room) P → P (recv_in s room link)
    recv-shows room Stands mute cases = absurd (mute refl)
    recv-shows room (Lost why) mute cases = gives-shows room _ cases
    recv-shows room Absent mute cases = stays-shows s (Recv room) P cases _ refl

    recv_as-shows : (room : ℕ) (k : Kind) → (link_of s.phase ≡ Stands → ⊥) → OfUnlinked s (Recv room) P
        → P (recv_as s room k)
    recv_as-shows room kind.Stream mute cases = recv-shows room (link_of s.phase) mute cases
    recv_as-shows room kind.Message mute cases = stays-shows s (Recv room) P cases _ refl

    message-none : (room : ℕ) (why : Refusal) (found : Option WholeMessage) (next : Receiving) → found ≡ None
        → next ≡ s.receiving
        → P (answered s (ReceivedMessage (answer_message why room None)))
        → P (answered (record s { receiving = next }) (ReceivedMessage (answer_message why room found)))
    message-none room why found next is same shows = rw (is, same) shows

    gives_message-shows : (room : ℕ) (why : Refusal) → OfUnlinked s (RecvMessage room) P → P (gives_message s room why)
    gives_message-shows room why cases =
        message-none room why _ _ (rw unlinked.receiving (idle-next config start))
        (rw unlinked.receiving (idle-after_message config start room))
        (cases.turns s.phase (ReceivedMessage (answer_message why room None)) [] (Stays s.phase refl)
        (message-tells room why))

    recv_message-shows : (room : ℕ) (link : Link) → (link ≡ Stands → ⊥) → OfUnlinked s (RecvMessage room) P
        → P (recv_message_in s room link)
    recv_message-shows room Stands mute cases = absurd (mute refl)
    recv_message-shows room (Lost why) mute cases = gives_message-shows room _ cases
    recv_message-shows room Absent mute cases = stays-shows s (RecvMessage room) P cases _ refl

    recv_message_as-shows : (room : ℕ) (k : Kind) → (link_of s.phase ≡ Stands → ⊥) → OfUnlinked s (RecvMessage room) P
        → P (recv_message_as s room k)
    recv_message_as-shows room kind.Stream mute cases = stays-shows s (RecvMessage room) P cases _ refl
    recv_message_as-shows room kind.Message mute cases = recv_message-shows room (link_of s.phase) mute cases

    -- ---- arrivals

    read-shows : (from : Addr) (raw : List ℕ) (result : Result Packet Malformed) → read raw ≡ result
        → OfUnlinked s (Arrive from raw) P
        → P (on_read w s from result)
    read-shows from raw (Err why) is cases =
        cases.counts _ (heard.Malformed why) (silent-tells (Arrive from raw) _ refl)
    read-shows from raw (Ok packet) is cases =
        packet-shows w s from (read raw) P (record {
          stale = cases.counts _ heard.Stale (silent-tells (Arrive from raw) _ refl);
          shaken = λ next peer origin answer emissions placed dropped unsettled shakes.
              cases.shaken from raw next peer origin answer emissions refl shakes
              (silent-tells (Arrive from raw) _ (heard-silent answer placed dropped));
          linked = λ peer origin emissions unsettled links.
              cases.linked from raw peer origin emissions refl links (silent-tells (Arrive from raw) _ refl);
        }) packet s.phase is refl (λ connected. absurd (cc))

    -- what holds of all these outcomes holds of each act
    pub unlinked-shows : (act : Act) → OfUnlinked s act P → P (on_act w s act)
    unlinked-shows (Listen most secret) cases =
        turned-shows s (Listen most secret) P cases _ _ refl
        (begun-turns s (is_backlog most) s.phase _ refl (λ is. Listens most secret is))
    unlinked-shows (Connect to) cases =
        turned-shows s (Connect to) P cases _ _ refl (begun-turns s (has_port to) s.phase _ refl (λ is. Asks to is))
    unlinked-shows (Meet to) cases =
        turned-shows s (Meet to) P cases _ _ refl (begun-turns s (has_port to) s.phase _ refl (λ is. Meets to is))
    unlinked-shows Accept cases = turned-shows s Accept P cases _ _ refl (accept-turns s s.phase refl)
    unlinked-shows Shake cases = stays-shows s Shake P cases _ refl
    unlinked-shows (Offer id) cases = turned-shows s (Offer id) P cases _ _ refl (offer-turns s id s.phase refl)
    unlinked-shows Withdraw cases = turned-shows s Withdraw P cases _ _ refl (withdraw-turns s s.phase refl)
    unlinked-shows (Send bytes) cases = send_as-shows s (Send bytes) P cases bytes s.kind
        (mute-absent s.phase unlinked.mute)
    unlinked-shows (Recv room) cases = recv_as-shows room s.kind (mute-absent s.phase unlinked.mute) cases
    unlinked-shows (SendMessage ttl order bytes) cases =
        send_message_as-shows s (SendMessage ttl order bytes) P cases ttl order bytes s.kind
        (mute-absent s.phase unlinked.mute)
    unlinked-shows (RecvMessage room) cases = recv_message_as-shows room s.kind (mute-absent s.phase unlinked.mute)
        cases
    unlinked-shows Pack cases = pack-shows s Pack P cases (link_of s.phase) (mute-absent s.phase unlinked.mute)
    unlinked-shows Tick cases = tick-shows s Tick P cases s.phase refl unlinked.mute
    unlinked-shows Close cases = turned-shows s Close P cases _ _ refl (closed-turns s s.phase unlinked.mute)
    unlinked-shows PortDown cases = turned-shows s PortDown P cases _ _ refl (port-turns s s.phase refl unlinked.mute)
    unlinked-shows Measure cases = stays-shows s Measure P cases _ refl
    unlinked-shows (Arrive from raw) cases = read-shows from raw (read raw) refl cases
