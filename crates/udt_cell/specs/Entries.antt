-- What the history of a shared socket is made of: an event with its answer and the datagrams that it emitted.
use Rattle.std.specs.Prelude.{◌≡◌, ℕ, ◌-◌, ◌^◌, ◌<◌, List, []}
use Rattle.udt_model.specs.declared.addresses.Ip.TheVariants.{V4}
use Rattle.udt_model.specs.declared.packets.Kind.TheVariants.{Stream}
use Rattle.udt_model.specs.Events.{Close, Event, Reply, DidClose, event, outs_of}
use Rattle.udt_model.specs.Opening.{opening}
use Rattle.udt_model.specs.Rate.{Ways}
use Rattle.udt_model.specs.Readiness.{ready_bits}
use Rattle.udt_model.specs.State.{State, Datagram}
use Rattle.udt_model.specs.Step.{step}
use Rattle.udt_turn.specs.Story.{Telling}

pub record Entry : Type 0 where
  pub event : Event
  pub reply : Reply
  pub outs : List Datagram

abbrev pub entry : Event → Reply → List Datagram → Entry
entry event reply outs = record { event = event; reply = reply; outs = outs }

-- some entry
abbrev pub some_entry : Entry
some_entry = entry (event 0 Close) DidClose []

-- where the count stands here, a socket takes no further event
abbrev pub last_count : ℕ
last_count = 2 ^ 55 - 1

module _ {C : Type 0} (w : Ways C) where
  -- some state
  abbrev pub some_state : State C
  some_state =
      opening w 0 (record { kind = Stream; payload = 1; snd_blocks = 2; rcv_blocks = 2 })
      (record { addr = record { ip = V4 0; port = 0 }; id = 0; isn = 0; payload = 1; flow = 0 }) 0 0

  -- the answer and the datagrams are those that the event has in this state
  abbrev pub Answers : State C → Entry → Type 0
  Answers s e = (e.reply ≡ (step w s e.event).reply) × (e.outs ≡ outs_of (step w s e.event))

  -- in the histories of sockets each event is a step
  abbrev pub tale_of_sockets : Telling (State C) Entry
  tale_of_sockets = record {
    after = λ s e. (step w s e.event).after;
    legal = Answers;
    count = λ s. s.count;
    bits = ready_bits;
  }

  -- one event was done, which the count could count
  pub record Follows (e : Entry) (before after : State C) : Type 0 where
    pub answers : Answers before e
    pub value : after ≡ (step w before e.event).after
    pub few : before.count < last_count
