-- A socket that carries messages gives no bytes of a stream.
use Rattle.std.proofs.Common.{◌≡◌, ℕ, Bool, List, [], refl, ap, ◌∙◌}
use Rattle.std.specs.Prelude.{Option}
use Rattle.udt_model.specs.Phases.{Link, Stands, Lost, Absent, link_of}
use Rattle.udt_model.specs.declared.packets.Kind.{Kind}
use Rattle.udt_model.specs.declared.packets.Kind.TheVariants as kind
use Rattle.udt_model.specs.Calls.{send_in, send_as, recv_as, send_message_in, send_message_as, recv_message_in, recv_message_as, pack_in}
use Rattle.udt_model.specs.Events.{Act, Listen, Connect, Meet, Accept, Shake, Offer, Withdraw, PortDown, Send, Recv, SendMessage, RecvMessage, Pack, Tick, Close, Measure, Arrive, Event, at_moment, event}
use Rattle.udt_model.specs.History.{History, state_of, given_by}
use Rattle.udt_model.specs.Rate.{Ways}
use Rattle.udt_model.specs.State.{State}
use Rattle.udt_model.specs.Step.{step}
use Rattle.udt_model.proofs.StepLemmas.{after_items-keeps_name}
use Rattle.udt_world.proofs.ArriveLemmas.{arrive-gives}
use Rattle.udt_world.proofs.EventLemmas.{tick_reply}

module _ {C : Type 0} (s : State C) where
  send-gives_in : (bytes : List ℕ) (link : Link) → given_by (send_in s bytes link).reply ≡ []
  send-gives_in bytes Stands = refl
  send-gives_in bytes (Lost why) = refl
  send-gives_in bytes Absent = refl

  send-gives : (bytes : List ℕ) (k : Kind) → given_by (send_as s bytes k).reply ≡ []
  send-gives bytes kind.Stream = send-gives_in bytes (link_of s.phase)
  send-gives bytes kind.Message = refl

  recv-gives : (room : ℕ) (k : Kind) → k ≡ kind.Message → given_by (recv_as s room k).reply ≡ []
  recv-gives room kind.Stream carries = absurd (cc)
  recv-gives room kind.Message carries = refl

  send_message-gives_in : (ttl : Option ℕ) (order : Bool) (bytes : List ℕ) (link : Link)
      → given_by (send_message_in s ttl order bytes link).reply ≡ []
  send_message-gives_in ttl order bytes Stands = refl
  send_message-gives_in ttl order bytes (Lost why) = refl
  send_message-gives_in ttl order bytes Absent = refl

  send_message-gives : (ttl : Option ℕ) (order : Bool) (bytes : List ℕ) (k : Kind)
      → given_by (send_message_as s ttl order bytes k).reply ≡ []
  send_message-gives ttl order bytes kind.Stream = refl
  send_message-gives ttl order bytes kind.Message = send_message-gives_in ttl order bytes (link_of s.phase)

  recv_message-gives_in : (room : ℕ) (link : Link) → given_by (recv_message_in s room link).reply ≡ []
  recv_message-gives_in room Stands = refl
  recv_message-gives_in room (Lost why) = refl
  recv_message-gives_in room Absent = refl

  recv_message-gives : (room : ℕ) (k : Kind) → given_by (recv_message_as s room k).reply ≡ []
  recv_message-gives room kind.Stream = refl
  recv_message-gives room kind.Message = recv_message-gives_in room (link_of s.phase)

module _ {C : Type 0} (w : Ways C) where
  pack-gives : (s : State C) (link : Link) → given_by (pack_in w s link).reply ≡ []
  pack-gives s Stands = refl
  pack-gives s (Lost why) = refl
  pack-gives s Absent = refl

  act-gives : (s : State C) (now : ℕ) (act : Act) → s.kind ≡ kind.Message → given_by (step w s (event now act)).reply ≡ []
  unfolding step
  act-gives s now (Listen most secret) carries = refl
  act-gives s now (Connect to) carries = refl
  act-gives s now (Meet to) carries = refl
  act-gives s now Accept carries = refl
  act-gives s now Shake carries = refl
  act-gives s now (Offer id) carries = refl
  act-gives s now Withdraw carries = refl
  act-gives s now PortDown carries = refl
  act-gives s now (Send bytes) carries = send-gives (at_moment s now) bytes s.kind
  act-gives s now (Recv room) carries = recv-gives (at_moment s now) room s.kind carries
  act-gives s now (SendMessage ttl order bytes) carries = send_message-gives (at_moment s now) ttl order bytes s.kind
  act-gives s now (RecvMessage room) carries = recv_message-gives (at_moment s now) room s.kind
  act-gives s now Pack carries = pack-gives (at_moment s now) (link_of s.phase)
  act-gives s now Tick carries = ap (λ reply. given_by reply) (tick_reply w s now)
  act-gives s now Close carries = refl
  act-gives s now Measure carries = refl
  act-gives s now (Arrive from bytes) carries = arrive-gives w s now from bytes

  -- whatever happened to it before
  pub happened-gives : (h : History C) (e : Event) → h.opening.kind ≡ kind.Message → given_by (step w (state_of w h) e).reply ≡ []
  happened-gives h e carries = act-gives (state_of w h) e.now e.act ((after_items-keeps_name w h.opening h.items).kind ∙ carries)
