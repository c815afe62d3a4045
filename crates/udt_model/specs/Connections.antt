-- How a socket comes by a connection: what its calls answer and leave, and the handshakes that it emits as time passes.
use Rattle.std.specs.Prelude.{ℕ, zero, suc, ◌+◌, ◌-◌, ◌==◌, Bool, true, false, ◌&&◌, List, [], ◌∷◌, ◌++◌, drop, Option, Some, None, Result, Ok, Err, not, nat_lt, nat_le, if◌then◌else◌}
use Rattle.udt_model.specs.declared.limits.TheConstants.{MOST_BACKLOG, SHAKE_INTERVAL, SHAKE_LIMIT}
use Rattle.udt_model.specs.declared.addresses.Addr.{Addr}
use Rattle.udt_model.specs.declared.answers.Cause.TheVariants as cause
use Rattle.udt_model.specs.declared.answers.Failure.TheVariants as failure
use Rattle.udt_model.specs.declared.answers.Peer.{Peer}
use Rattle.udt_model.specs.declared.answers.Refusal.{Refusal}
use Rattle.udt_model.specs.declared.answers.Refusal.TheVariants as refusal
use Rattle.udt_model.specs.declared.answers.Shaken.{Shaken}
use Rattle.udt_model.specs.declared.answers.Shaken.TheVariants as shaken
use Rattle.udt_model.specs.declared.handshakes.Caller.{Caller}
use Rattle.udt_model.specs.declared.packets.Config.{Config}
use Rattle.udt_model.specs.declared.packets.Shake.{Shake}
use Rattle.udt_model.specs.Calls.{stamp_of}
use Rattle.udt_model.specs.Events.{DidListen, DidConnect, DidMeet, Accepted, DidShake, DidOffer, DidWithdraw, DidPortDown, DidTick, Outcome, answered}
use Rattle.udt_model.specs.Handshakes.{Connecting, Meeting, client_request, meet_request}
use Rattle.udt_model.specs.Phases.{Phase, Backlog}
use Rattle.udt_model.specs.Phases as phase
use Rattle.udt_model.specs.State.{State, Emission}
use Rattle.udt_model.specs.Wire.{Handshake, spelling}

-- ---- calls, by the phase

-- what a call answers that has a socket listen, ask or meet: a value out of range is refused first, and then a socket that did
-- one of the three
abbrev pub begun : Bool → Phase → Result (Unit {0}) Refusal
begun false p = Err refusal.BadParameter
begun true phase.Opened = Ok tt
begun true other = Err refusal.Connected

-- the phase that it leaves
abbrev pub phase_after : Result (Unit {0}) Refusal → (next old : Phase) → Phase
phase_after (Ok done) next old = next
phase_after (Err why) next old = old

-- a listener may keep so many connections
abbrev pub is_backlog : ℕ → Bool
is_backlog most = nat_le 1 most && nat_le most MOST_BACKLOG

-- an address that can be asked or met has a port
abbrev pub has_port : Addr → Bool
has_port to = not (to.port == 0)

-- the first connection that waits
abbrev pub first_offered : List ℕ → Result ℕ Refusal
first_offered [] = Err refusal.AgainRecv
first_offered (id ∷ ids) = Ok id

abbrev pub accept_answer : Phase → Result ℕ Refusal
accept_answer (phase.Listening b) = first_offered b.offered
accept_answer (phase.Broken why) = Err (refusal.ConnLost why)
accept_answer other = Err refusal.NotListening

abbrev pub phase_after_accept : Phase → Phase
phase_after_accept (phase.Listening b) = phase.Listening (record b { offered = drop 1 b.offered })
phase_after_accept other = other

-- what became of a connection
abbrev pub shaken_in : Phase → Shaken
shaken_in (phase.Connecting c again) = shaken.Waiting
shaken_in (phase.Meeting m again) = shaken.Waiting
shaken_in phase.Connected = shaken.Done
shaken_in (phase.Failed failure.TimedOut) = shaken.TimedOut
shaken_in (phase.Failed failure.Rejected) = shaken.Rejected
shaken_in (phase.Broken why) = shaken.Lost why
shaken_in other = shaken.Idle

-- a promised place is given to a connection, or given back
abbrev pub with_offer : Backlog → ℕ → ℕ → Backlog
with_offer b id zero = b
with_offer b id (suc promised) = record b { offered = b.offered ++ id ∷ []; promised = promised }

abbrev pub offer_answer : Phase → Bool
offer_answer (phase.Listening b) = nat_lt 0 b.promised
offer_answer other = false

abbrev pub phase_after_offer : ℕ → Phase → Phase
phase_after_offer id (phase.Listening b) = phase.Listening (with_offer b id b.promised)
phase_after_offer id other = other

abbrev pub phase_after_withdraw : Phase → Phase
phase_after_withdraw (phase.Listening b) = phase.Listening (record b { promised = b.promised - 1 })
phase_after_withdraw other = other

-- a socket that waits for its port is cut off
abbrev pub phase_without_port : Phase → Phase
phase_without_port (phase.Listening b) = phase.Broken cause.PortDown
phase_without_port (phase.Connecting c again) = phase.Broken cause.PortDown
phase_without_port (phase.Meeting m again) = phase.Broken cause.PortDown
phase_without_port phase.Connected = phase.Broken cause.PortDown
phase_without_port other = other

-- the ID to which a meeting socket's handshake goes: none before it has adopted anybody
abbrev pub adopted_id : Option Peer → ℕ
adopted_id None = 0
adopted_id (Some peer) = peer.id

module _ {C : Type 0} where
  -- ---- calls

  -- what the socket was opened with
  abbrev pub config_of : State C → Config
  config_of s = record {
    kind = s.kind;
    payload = s.sending.blocks.room;
    snd_blocks = s.sending.blocks.blocks;
    rcv_blocks = s.receiving.blocks.capacity;
  }

  -- the socket as one that asks this address, or meets it, from now on
  abbrev pub caller_of : State C → Addr → Caller
  caller_of s to = record { config = config_of s; own = s.own; isn = s.isn; to = to; began = s.last }

  -- the listener, client or meeting socket that it becomes
  abbrev pub listens : State C → ℕ → List ℕ → Phase
  listens s most secret =
      phase.Listening (record {
        listening = record { secret = secret; config = config_of s };
        most = most;
        offered = [];
        promised = 0;
      })

  abbrev pub asks : State C → Addr → Phase
  asks s to = phase.Connecting (record { caller = caller_of s to; cookie = 0 }) s.last

  abbrev pub meets : State C → Addr → Phase
  meets s to = phase.Meeting (record { caller = caller_of s to; adopted = None }) s.last

  -- where the call is answered so, this phase comes
  abbrev pub begins : State C → Result (Unit {0}) Refusal → Phase → State C
  begins s answer next = record s { phase = phase_after answer next s.phase }

  abbrev pub on_listen : State C → ℕ → List ℕ → Outcome C
  on_listen s most secret =
      let answer = begun (is_backlog most) s.phase in
      answered (begins s answer (listens s most secret)) (DidListen answer)

  abbrev pub on_connect : State C → Addr → Outcome C
  on_connect s to =
      let answer = begun (has_port to) s.phase in
      answered (begins s answer (asks s to)) (DidConnect answer)

  abbrev pub on_meet : State C → Addr → Outcome C
  on_meet s to =
      let answer = begun (has_port to) s.phase in
      answered (begins s answer (meets s to)) (DidMeet answer)

  abbrev pub on_accept : State C → Outcome C
  on_accept s = answered (record s { phase = phase_after_accept s.phase }) (Accepted (accept_answer s.phase))

  abbrev pub on_shake : State C → Outcome C
  on_shake s = answered s (DidShake (shaken_in s.phase))

  abbrev pub on_offer : State C → ℕ → Outcome C
  on_offer s id = answered (record s { phase = phase_after_offer id s.phase }) (DidOffer (offer_answer s.phase))

  abbrev pub on_withdraw : State C → Outcome C
  on_withdraw s = answered (record s { phase = phase_after_withdraw s.phase }) DidWithdraw

  abbrev pub on_port_down : State C → Outcome C
  on_port_down s = answered (record s { phase = phase_without_port s.phase }) DidPortDown

  -- ---- time

  -- a handshake that is emitted to this address, for the socket with this ID. It names no offset
  abbrev pub shake_emission : State C → Addr → ℕ → Shake → Emission
  shake_emission s to dest shake = record {
    datagram = record { addr = to; bytes = spelling (Handshake (stamp_of s) dest shake) };
    offsets = [];
  }

  -- a socket that has waited for too long fails. Before, it emits its handshake again where the moment has come
  abbrev pub repeats : State C → (began again : ℕ) → Phase → Emission → Outcome C
  repeats s began again next emission =
      if nat_le (began + SHAKE_LIMIT) s.last
      then answered (record s { phase = phase.Failed failure.TimedOut }) DidTick
      else (if nat_le again s.last
      then record { after = record s { phase = next }; reply = DidTick; emissions = emission ∷ [] }
      else answered s DidTick)

  -- a client asks the listener, of whose socket it doesn't know the ID
  abbrev pub asks_again : State C → Connecting → ℕ → Outcome C
  asks_again s c again =
      repeats s c.caller.began again
      (phase.Connecting c (s.last + SHAKE_INTERVAL))
      (shake_emission s c.caller.to 0 (client_request c))

  abbrev pub meets_again : State C → Meeting → ℕ → Outcome C
  meets_again s m again =
      repeats s m.caller.began again
      (phase.Meeting m (s.last + SHAKE_INTERVAL))
      (shake_emission s m.caller.to (adopted_id m.adopted) (meet_request m))
