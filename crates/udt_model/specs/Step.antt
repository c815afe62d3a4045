-- The machine: one row for each event of a socket.
use Rattle.udt_model.specs.Rate.{Ways}
use Rattle.udt_model.specs.Wire.{read}
use Rattle.udt_model.specs.State.{State}
use Rattle.udt_model.specs.Events.{Act, Listen, Connect, Meet, Accept, Shake, Offer, Withdraw, Send, Recv, SendMessage, RecvMessage, Pack, Tick, Close, PortDown, Measure, Arrive, Event, Outcome, at_moment}
use Rattle.udt_model.specs.Connections.{on_listen, on_connect, on_meet, on_accept, on_shake, on_offer, on_withdraw, on_port_down}
use Rattle.udt_model.specs.Calls.{on_send, on_recv, on_send_message, on_recv_message, on_close, on_pack, on_measure}
use Rattle.udt_model.specs.Ticks.{on_tick}
use Rattle.udt_model.specs.Arrivals.{on_read}

-- ---- all events

module _ {C : Type 0} (w : Ways C) where
  abbrev pub on_act : State C → Act → Outcome C
  on_act s (Listen backlog secret) = on_listen s backlog secret
  on_act s (Connect to) = on_connect s to
  on_act s (Meet to) = on_meet s to
  on_act s Accept = on_accept s
  on_act s Shake = on_shake s
  on_act s (Offer id) = on_offer s id
  on_act s Withdraw = on_withdraw s
  on_act s (Send bytes) = on_send s bytes
  on_act s (Recv room) = on_recv s room
  on_act s (SendMessage ttl order bytes) = on_send_message s ttl order bytes
  on_act s (RecvMessage room) = on_recv_message s room
  on_act s Pack = on_pack w s
  on_act s Tick = on_tick w s
  on_act s Close = on_close s
  on_act s PortDown = on_port_down s
  on_act s Measure = on_measure w s
  on_act s (Arrive from bytes) = on_read w s from (read bytes)

  unfoldable pub step : State C → Event → Outcome C
  step s event = on_act (at_moment s event.now) event.act
