-- The receiving half, as it lies in memory.
use Rattle.std.specs.Prelude.{◌≡◌, ◌+◌, ◌*◌, ◌^◌, ◌<◌, ◌≤◌, IfSome}
use Rattle.udt_model.specs.declared.limits.TheConstants.{PACKET_LIMIT, LAST_ACK_NUMBER, LIGHT_ACK_COUNT, LAST_MOMENT, SYN, GREATEST_RTT}
use Rattle.udt_model.specs.ReceiveHalf.{Receiving}
use Rattle.udt_receiver.specs.declared.receiver.Receiver.TheInside.{Inside}
use Rattle.udt_model.specs.ReceiveOrder.{IsInOrder}

abbrev pub receiving_of : Inside → Receiving
receiving_of r = record {
  isn = r.isn;
  payload = r.payload;
  blocks = r.buffer;
  top = r.top;
  missing = r.lost.missing;
  last_data = r.last_data;
  arrivals = r.arrivals;
  pairs = r.pairs;
  history = r.history;
  last_ack = r.last_ack;
  confirmed = r.confirmed;
  fresh = r.fresh;
  ack_due = r.ack_due;
  nak_due = r.nak_due;
}

-- offsets lie in order, and numbers within their bounds
pub record IsReceiver (r : Inside) : Type 0 where
  pub order : IsInOrder r.buffer r.top r.lost.missing
  pub top : r.top ≤ PACKET_LIMIT
  -- as many packets can be missing as there is room for
  pub window : r.lost.window ≡ r.buffer.capacity
  pub few : r.buffer.capacity < 2 ^ 32
  -- the agreed payload has room
  pub payload : r.payload ≤ r.buffer.payload
  -- ACKs are counted within their numbers
  pub number : IfSome r.last_ack (λ ack. ack.number ≤ LAST_ACK_NUMBER)
  -- a light ACK is due before so many blocks are fresh
  pub fresh : r.fresh < LIGHT_ACK_COUNT
  pub ack_due : r.ack_due ≤ LAST_MOMENT + SYN
  pub nak_due : r.nak_due ≤ LAST_MOMENT + 5 * GREATEST_RTT + SYN
