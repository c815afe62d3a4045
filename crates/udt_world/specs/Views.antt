-- A network as it lies in memory: what is seen of it, and what an event does to that.
use Rattle.std.specs.Prelude.{◌≡◌, ℕ, Bool, ◌||◌, List, ◌++◌, length, map, Option, Some, slice_get, slice_set}
use Rattle.udt_model.specs.declared.addresses.Addr.{Addr}
use Rattle.udt_model.specs.State.{State}
use Rattle.udt_model.specs.Step.{step}
use Rattle.udt_model.specs.Events.{Accept, Offer, Withdraw, Arrive, Event, Reply, event, outs_of}
use Rattle.udt_model.specs.Events as model_events
use Rattle.udt_model.specs.History.{state_of}
use Rattle.udt_model.specs.Network as model
use Rattle.udt_model.specs.Rate.{Ways}
use Rattle.udt_model.specs.Script.{from_host}
use Rattle.udt_model.specs.Texts.{event_text, datagrams_text}
use Rattle.udt_script.specs.CodeLines.{act_of, datagram_of}
use Rattle.udt_world.specs.declared.network.Act.{Act}
use Rattle.udt_world.specs.declared.network.Act.TheVariants as code
use Rattle.udt_world.specs.declared.network.Network.{Network}
use Rattle.udt_world.specs.declared.network.ScriptHost.{ScriptHost}
use Rattle.udt_world.specs.declared.network.ScriptSocket.{ScriptSocket}

-- a socket with the state that it is in, whether it began to listen, and the address that it began to meet
pub record Sight (C : Type 0) : Type 0 where
  pub name : List ℕ
  pub host : Addr
  pub listened : Bool
  pub met : Option Addr
  pub state : State C

-- what is seen of a network: its hosts and sockets, and the datagrams that these emitted so far
pub record View (C : Type 0) : Type 0 where
  pub hosts : List model.ScriptHost
  pub sockets : List (Sight C)
  pub datagrams : List model.ScriptDatagram

-- an act of the code's, and its event at a moment
abbrev pub act_in : Act → model_events.Act
act_in (code.Call call) = act_of call.now
act_in code.Accept = Accept
act_in (code.Offer id) = Offer id
act_in code.Withdraw = Withdraw
act_in (code.Arrive from bytes) = Arrive from bytes.now

abbrev pub event_of : ℕ → Act → Event
event_of now act = event now (act_in act)

abbrev pub host_of : ScriptHost → model.ScriptHost
host_of host = record { name = host.name.items; addr = host.addr }

module _ {C : Type 0} where
  abbrev pub sight_of : ScriptSocket C → Sight C
  sight_of socket = record {
    name = socket.name.items;
    host = socket.host;
    listened = socket.listened;
    met = socket.met;
    state = socket.socket;
  }

  abbrev pub view_of : Network C → View C
  view_of network = record {
    hosts = map host_of network.hosts.items;
    sockets = map sight_of network.sockets.items;
    datagrams = map datagram_of network.datagrams.items;
  }

module _ {C : Type 0} (w : Ways C) where
  -- what a history leads to
  abbrev pub sight_of_history : model.ScriptSocket C → Sight C
  sight_of_history socket = record {
    name = socket.name;
    host = socket.host;
    listened = model.has_listened socket.history.items;
    met = model.met_by socket.history.items;
    state = state_of w socket.history;
  }

  -- the sockets are in the states to which the histories of the network lead, and the datagrams are its own
  pub record Shows (network : model.Network C) (view : View C) : Type 0 where
    pub hosts_are : view.hosts ≡ network.hosts
    pub sockets_are : view.sockets ≡ map sight_of_history network.sockets
    pub datagrams_are : view.datagrams ≡ network.datagrams

  -- a socket once it answered an event
  abbrev pub told_by : Sight C → Event → Reply → Sight C
  told_by sight event reply = record sight {
    listened = sight.listened || model.is_listening reply;
    met = model.first_met sight.met (model.meets_by event.act reply);
  }

  -- and once it had the event
  abbrev pub after_event : Sight C → Event → Sight C
  after_event sight event =
      record (told_by sight event (step w sight.state event).reply) { state = (step w sight.state event).after }

  -- the socket at this place has the event: its state, its datagrams and what is printed are those of the step
  pub record HasEvent (place : ℕ) (event : Event) (old new : View C) (before after : List ℕ) : Type 0 where
    pub sight : Sight C
    pub hosts : new.hosts ≡ old.hosts
    pub found : slice_get old.sockets place ≡ Some sight
    pub sockets : new.sockets ≡ slice_set old.sockets place (after_event sight event)
    pub datagrams : new.datagrams ≡ old.datagrams ++ map (from_host sight.host) (outs_of (step w sight.state event))
    pub text : after
        ≡ before ++ (event_text sight.name event.act (step w sight.state event).reply
        ++ datagrams_text (length old.datagrams) (map (from_host sight.host) (outs_of (step w sight.state event))))

  -- and the same without what is printed
  pub record Moves (place : ℕ) (event : Event) (old new : View C) : Type 0 where
    pub sight : Sight C
    pub hosts : new.hosts ≡ old.hosts
    pub found : slice_get old.sockets place ≡ Some sight
    pub sockets : new.sockets ≡ slice_set old.sockets place (after_event sight event)
    pub datagrams : new.datagrams ≡ old.datagrams ++ map (from_host sight.host) (outs_of (step w sight.state event))

  -- and the socket answers this
  pub record Answers (place : ℕ) (event : Event) (reply : Reply) (old new : View C) : Type 0 where
    pub moves : Moves place event old new
    pub reply_is : reply ≡ (step w moves.sight.state event).reply

  -- the socket at this place answers the event so
  abbrev pub RepliesTo : ℕ → Event → Reply → View C → Type 0
  RepliesTo place event reply view =
      (sight : Sight C) → slice_get view.sockets place ≡ Some sight → reply ≡ (step w sight.state event).reply
