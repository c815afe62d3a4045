-- Each event raises the count by one.
use Rattle.std.proofs.Common.{◌≡◌, ℕ, ◌+◌, ◌<◌, List, refl, arith}
use Rattle.std.specs.Prelude.{Bool, Option, Result}
use Rattle.udt_model.specs.declared.addresses.Addr.{Addr}
use Rattle.udt_model.specs.declared.packets.Kind.{Kind}
use Rattle.udt_model.specs.declared.packets.Kind.TheVariants as kind
use Rattle.udt_model.specs.declared.packets.Malformed.{Malformed}
use Rattle.udt_model.specs.declared.sockets.ExpOutcome.{ExpOutcome}
use Rattle.udt_model.specs.declared.sockets.ExpOutcome.TheVariants as exp
use Rattle.udt_model.specs.Arrivals.{on_read}
use Rattle.udt_model.specs.Calls.{send_in, send_as, recv_in, recv_as, pack_in}
use Rattle.udt_model.specs.Calls.{send_message_in, send_message_as, recv_message_in, recv_message_as}
use Rattle.udt_model.specs.Events.{Act, Listen, Connect, Meet, Accept, Shake, Offer, Withdraw, PortDown, Event, at_moment, risen}
use Rattle.udt_model.specs.Events.{Send, Recv, SendMessage, RecvMessage, Pack, Tick, Close, Measure, Arrive}
use Rattle.udt_model.specs.Connections.{repeats}
use Rattle.udt_model.specs.Phases.{Phase, Link, Stands, Lost, Absent, link_of}
use Rattle.udt_model.specs.Phases as phase
use Rattle.udt_model.specs.Rate.{Ways}
use Rattle.udt_model.specs.State.{State, Emission}
use Rattle.udt_model.specs.Step.{on_act, step}
use Rattle.udt_model.specs.Ticks.{exp_outcome, after_exp, after_reports, tick_in}
use Rattle.udt_model.specs.Wire.{Packet, read}
use Rattle.udt_model.proofs.ArrivalLemmas.{arrival-shows}
use Rattle.udt_model.proofs.PhaseLemmas.{repeats-show}
use Rattle.udt_cell.specs.Entries.{last_count}

module _ {C : Type 0} where
  send-counts : (s : State C) (bytes : List ℕ) (link : Link) → (send_in s bytes link).after.count ≡ s.count
  send-counts s bytes Stands = refl
  send-counts s bytes (Lost why) = refl
  send-counts s bytes Absent = refl

  send_as-counts : (s : State C) (bytes : List ℕ) (kind : Kind) → (send_as s bytes kind).after.count ≡ s.count
  send_as-counts s bytes kind.Stream = send-counts s bytes (link_of s.phase)
  send_as-counts s bytes kind.Message = refl

  recv-counts : (s : State C) (room : ℕ) (link : Link) → (recv_in s room link).after.count ≡ s.count
  recv-counts s room Stands = refl
  recv-counts s room (Lost why) = refl
  recv-counts s room Absent = refl

  recv_as-counts : (s : State C) (room : ℕ) (kind : Kind) → (recv_as s room kind).after.count ≡ s.count
  recv_as-counts s room kind.Stream = recv-counts s room (link_of s.phase)
  recv_as-counts s room kind.Message = refl

  send_message-counts : (s : State C) (ttl : Option ℕ) (order : Bool) (bytes : List ℕ) (link : Link)
      → (send_message_in s ttl order bytes link).after.count ≡ s.count
  send_message-counts s ttl order bytes Stands = refl
  send_message-counts s ttl order bytes (Lost why) = refl
  send_message-counts s ttl order bytes Absent = refl

  send_message_as-counts : (s : State C) (ttl : Option ℕ) (order : Bool) (bytes : List ℕ) (kind : Kind)
      → (send_message_as s ttl order bytes kind).after.count ≡ s.count
  send_message_as-counts s ttl order bytes kind.Stream = refl
  send_message_as-counts s ttl order bytes kind.Message = send_message-counts s ttl order bytes (link_of s.phase)

  recv_message-counts : (s : State C) (room : ℕ) (link : Link) → (recv_message_in s room link).after.count ≡ s.count
  recv_message-counts s room Stands = refl
  recv_message-counts s room (Lost why) = refl
  recv_message-counts s room Absent = refl

  recv_message_as-counts : (s : State C) (room : ℕ) (kind : Kind) → (recv_message_as s room kind).after.count ≡ s.count
  recv_message_as-counts s room kind.Stream = refl
  recv_message_as-counts s room kind.Message = recv_message-counts s room (link_of s.phase)

module _ {C : Type 0} (w : Ways C) where
  pack-counts : (s : State C) (link : Link) → (pack_in w s link).after.count ≡ s.count
  pack-counts s Stands = refl
  pack-counts s (Lost why) = refl
  pack-counts s Absent = refl

  exp-counts : (s : State C) (outcome : ExpOutcome) → (after_exp w s outcome).count ≡ s.count
  exp-counts s exp.NotDue = refl
  exp-counts s exp.Breaks = refl
  exp-counts s exp.LosesAll = refl
  exp-counts s exp.KeepsAlive = refl

  repeats-counts : (s : State C) (began again : ℕ) (next : Phase) (emission : Emission)
      → (repeats s began again next emission).after.count ≡ s.count
  repeats-counts s began again next emission =
      repeats-show s began again next emission (λ outcome. outcome.after.count ≡ s.count)
      (record { fails = refl; again = refl; waits = refl })

  tick-counts : (s : State C) (phase : Phase) → (tick_in w s phase).after.count ≡ s.count
  tick-counts s phase.Opened = refl
  tick-counts s (phase.Listening b) = refl
  tick-counts s (phase.Connecting c again) = repeats-counts s c.caller.began again _ _
  tick-counts s (phase.Meeting m again) = repeats-counts s m.caller.began again _ _
  tick-counts s phase.Connected = exp-counts (after_reports s) (exp_outcome s)
  tick-counts s (phase.Broken why) = refl
  tick-counts s (phase.Failed why) = refl
  tick-counts s phase.Closing = refl
  tick-counts s phase.Closed = refl

  on_read-counts : (s : State C) (from : Addr) (result : Result Packet Malformed)
      → (on_read w s from result).after.count ≡ s.count
  on_read-counts s from result = arrival-shows w s from (λ outcome. outcome.after.count ≡ s.count) result (record {
    passed = λ counters answer differs. refl;
    noticed = λ counters answer differs connected. refl;
    brought = λ number flags stamp bytes connected sender is. refl;
    dropped = λ message stamp first last range connected sender is messages found. refl;
    acknowledged = λ number stamp body offset connected sender is acks. refl;
    reported = λ stamp ranges connected sender is. refl;
    confirmed = λ number ack connected found. refl;
    ended = λ connected. refl;
    again = λ stamp dest shake answer connected sender is same answers. refl;
    shaken = λ next peer from_whom answer emissions placed dropped waits shakes. refl;
    linked = λ peer from_whom emissions waits links. refl;
  })

  on_act-counts : (s : State C) (act : Act) → (on_act w s act).after.count ≡ s.count
  on_act-counts s (Listen backlog secret) = refl
  on_act-counts s (Connect to) = refl
  on_act-counts s (Meet to) = refl
  on_act-counts s Accept = refl
  on_act-counts s Shake = refl
  on_act-counts s (Offer id) = refl
  on_act-counts s Withdraw = refl
  on_act-counts s (Send bytes) = send_as-counts s bytes s.kind
  on_act-counts s (Recv room) = recv_as-counts s room s.kind
  on_act-counts s (SendMessage ttl order bytes) = send_message_as-counts s ttl order bytes s.kind
  on_act-counts s (RecvMessage room) = recv_message_as-counts s room s.kind
  on_act-counts s Pack = pack-counts s (link_of s.phase)
  on_act-counts s Tick = tick-counts s s.phase
  on_act-counts s Close = refl
  on_act-counts s PortDown = refl
  on_act-counts s Measure = refl
  on_act-counts s (Arrive from bytes) = on_read-counts s from (read bytes)

  step-counts : (s : State C) (event : Event) → (step w s event).after.count ≡ risen s.count
  unfolding step
  step-counts s event = on_act-counts (at_moment s event.now) event.act

  -- below the last count one more is counted
  pub step_counts_one : (s : State C) (event : Event) → s.count < last_count → (step w s event).after.count ≡ s.count + 1
  step_counts_one s event few = let e = step-counts s event in omega (arith, e, few)
