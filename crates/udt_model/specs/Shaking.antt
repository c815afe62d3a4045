-- What a handshake that arrives answers, leaves and emits.
use Rattle.std.specs.Prelude.{ℕ, ◌+◌, ◌==◌, ◌&&◌, List, [], ◌∷◌, Option, Some, None, not, if◌then◌else◌}
use Rattle.udt_model.specs.declared.limits.TheConstants.{SHAKE_INTERVAL}
use Rattle.udt_model.specs.declared.addresses.Addr.{Addr}
use Rattle.udt_model.specs.declared.answers.Failure.TheVariants as failure
use Rattle.udt_model.specs.declared.answers.Heard.TheVariants as heard
use Rattle.udt_model.specs.declared.answers.Origin.{Origin}
use Rattle.udt_model.specs.declared.answers.Origin.TheVariants as origin
use Rattle.udt_model.specs.declared.answers.Peer.{Peer}
use Rattle.udt_model.specs.declared.handshakes.Asked.{Asked}
use Rattle.udt_model.specs.declared.handshakes.Asked.TheVariants as asks
use Rattle.udt_model.specs.declared.handshakes.ClientSaw.{ClientSaw}
use Rattle.udt_model.specs.declared.handshakes.ClientSaw.TheVariants as client
use Rattle.udt_model.specs.declared.handshakes.MeetSaw.{MeetSaw}
use Rattle.udt_model.specs.declared.handshakes.MeetSaw.TheVariants as meet
use Rattle.udt_model.specs.declared.handshakes.Verdict.{Verdict}
use Rattle.udt_model.specs.declared.handshakes.Verdict.TheVariants as verdict
use Rattle.udt_model.specs.declared.packets.Shake.{Shake}
use Rattle.udt_model.specs.Connections.{caller_of, shake_emission}
use Rattle.udt_model.specs.Counted.{on_stale, on_control}
use Rattle.udt_model.specs.Events.{Outcome}
use Rattle.udt_model.specs.Handshakes.{Connecting, Meeting, asked, says, judged, client_request, client_saw, client_keeps, meet_saw, meet_keeps, meet_request}
use Rattle.udt_model.specs.Opening.{connected}
use Rattle.udt_model.specs.Phases.{Backlog, has_place}
use Rattle.udt_model.specs.Phases as phase
use Rattle.udt_model.specs.Rate.{Ways}
use Rattle.udt_model.specs.State.{State, Emission}
use Rattle.udt_model.specs.Wire.{Packet, Handshake}

-- what is answered to a handshake that comes again once the socket is connected: a request where it was connected from its opening
-- on, and the handshakes of a rendezvous where it met
abbrev pub answer_again : Origin → Asked → Option Asked
answer_again origin.Opening asks.Requests = Some asks.Answers
answer_again origin.Rendezvous asks.Meets = Some asks.Answers
answer_again origin.Rendezvous asks.Answers = Some asks.Agrees
answer_again from asked = None

module _ {C : Type 0} where
  -- ---- a listener

  -- a listener judges a request: it sends a cookie, promises a place, or refuses
  abbrev pub judged_so : State C → Backlog → Addr → ℕ → Verdict → Outcome C
  judged_so s b from id (verdict.Cookie answer) = on_control s heard.Cookie (shake_emission s from id answer ∷ [])
  judged_so s b from id verdict.Request =
      on_control (record s { phase = phase.Listening (record b { promised = b.promised + 1 }) }) heard.Request []
  judged_so s b from id (verdict.Reject answer) = on_control s heard.Reject (shake_emission s from id answer ∷ [])

  -- it takes requests without a destination, from a socket with an ID
  abbrev pub listener_hears : State C → Backlog → Addr → ℕ → Shake → Asked → Outcome C
  listener_hears s b from dest shake asks.Requests =
      if (dest == 0) && not (shake.id == 0)
      then judged_so s b from shake.id (judged b.listening shake from s.last (has_place b))
      else on_stale s
  listener_hears s b from dest shake asked = on_stale s

  abbrev pub on_listening : State C → Backlog → Addr → Packet → Outcome C
  on_listening s b from (Handshake stamp dest shake) = listener_hears s b from dest shake (asked shake.ask)
  on_listening s b from other = on_stale s

  -- ---- a connected socket

  -- an answer of this kind to the peer
  abbrev pub answer_to : State C → Asked → Emission
  answer_to s asks =
      shake_emission s s.peer.addr s.peer.id (says (caller_of s s.peer.addr) s.receiving.payload asks 0)

  abbrev pub answers_again : State C → Option Asked → Outcome C
  answers_again s None = on_stale s
  answers_again s (Some asks) = on_control s heard.Answered (answer_to s asks ∷ [])

  -- a handshake of the peer
  abbrev pub on_shake_again : State C → Shake → Outcome C
  on_shake_again s shake =
      if shake.id == s.peer.id then answers_again s (answer_again s.origin (asked shake.ask)) else on_stale s

  -- ---- a meeting socket

  -- the answer that a meeting socket sends to the peer that it has adopted
  abbrev pub meet_answer : State C → Meeting → Option Peer → List Emission
  meet_answer s m None = []
  meet_answer s m (Some peer) = shake_emission s peer.addr peer.id (meet_request m) ∷ []

  -- an answer is answered once more, and an answer to an answer isn't
  abbrev pub agreement_to : State C → Asked → List Emission
  agreement_to s asks.Answers = answer_to s asks.Agrees ∷ []
  agreement_to s asked = []

module _ {C : Type 0} (w : Ways C) where
  -- ---- a client

  -- a cookie goes back with a request at once
  abbrev pub client_hears : State C → Connecting → Shake → ClientSaw → Outcome C
  client_hears s c shake client.Cookie =
      let next = client_keeps c shake client.Cookie in
      on_control
      (record s { phase = phase.Connecting next (s.last + SHAKE_INTERVAL) })
      heard.Cookie
      (shake_emission s c.caller.to 0 (client_request next) ∷ [])
  client_hears s c shake (client.Connected peer) = on_control (connected w s peer origin.Listener) heard.Connected []
  client_hears s c shake client.Rejected = on_control (record s { phase = phase.Failed failure.Rejected }) heard.Rejected []
  client_hears s c shake client.Stale = on_stale s

  abbrev pub on_connecting : State C → Connecting → Addr → Packet → Outcome C
  on_connecting s c from (Handshake stamp dest shake) = client_hears s c shake (client_saw c dest shake from)
  on_connecting s c from other = on_stale s

  -- ---- a rendezvous

  -- the first handshake makes its sender the peer, for good
  abbrev pub meeter_hears : State C → Meeting → ℕ → Shake → MeetSaw → Outcome C
  meeter_hears s m again shake (meet.Adopted peer) =
      let next = meet_keeps m (meet.Adopted peer) in
      on_control
      (record s { peer = peer; origin = origin.Rendezvous; phase = phase.Meeting next again })
      heard.Adopted
      (meet_answer s next next.adopted)
  meeter_hears s m again shake meet.Answered = on_control s heard.Answered (meet_answer s m m.adopted)
  meeter_hears s m again shake (meet.Connected peer) =
      on_control
      (connected w s peer origin.Rendezvous)
      heard.Connected
      (agreement_to (connected w s peer origin.Rendezvous) (asked shake.ask))
  meeter_hears s m again shake meet.Stale = on_stale s

  abbrev pub on_meeting : State C → Meeting → ℕ → Addr → Packet → Outcome C
  on_meeting s m again from (Handshake stamp dest shake) = meeter_hears s m again shake (meet_saw m dest shake from)
  on_meeting s m again from other = on_stale s
