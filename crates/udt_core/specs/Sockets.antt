-- A socket, as it lies in memory.
use Rattle.std.specs.Prelude.{◌≡◌, ◌+◌, ◌-◌, ◌*◌, ◌/◌, ◌^◌, ◌<◌, ◌≤◌, max}
use Rattle.udt_model.specs.declared.limits.TheConstants.{LAST_MOMENT, EXP_LEAST_INTERVAL, MOST_PAYLOAD, MOST_BLOCKS}
use Rattle.udt_model.specs.ReceiveReports.{nak_words}
use Rattle.udt_model.specs.State.{State}
use Rattle.udt_timing.specs.RoundTrips.{round_trip_of}
use Rattle.udt_core.specs.Phases.{phase_of, HasTakenNothing}
use Rattle.udt_core.specs.declared.socket.Socket.TheInside.{Inside}

abbrev pub state_of : {C : Type 0} → Inside C → State C
state_of s = record {
  own = s.own;
  kind = s.kind;
  isn = s.isn;
  peer = s.peer;
  origin = s.origin;
  opened = s.opened;
  last = s.last;
  count = s.count;
  phase = phase_of s.phase;
  heard = s.heard;
  exp_from = s.exp_from;
  exp_count = s.exp_count;
  rtt = round_trip_of s.rtt;
  sending = s.sending;
  receiving = s.receiving;
  counters = s.counters;
}

-- the moments stand in order, within the greatest one, and each time that the EXP timer fired took its least interval.
-- Data packets and NAKs fit into a datagram, whatever payload is agreed on
pub record IsSocket {C : Type 0} (s : Inside C) : Type 0 where
  pub since : s.opened ≤ s.last
  pub until : s.last ≤ LAST_MOMENT
  pub begun : s.exp_from ≤ s.last
  pub expired : EXP_LEAST_INTERVAL * (s.exp_count - 1) ≤ s.exp_from
  pub block : s.sending.blocks.room ≤ MOST_PAYLOAD
  pub payload : s.receiving.payload ≤ MOST_PAYLOAD
  pub capacity : s.receiving.blocks.capacity ≤ MOST_BLOCKS
  pub words : nak_words s.receiving ≤ s.ranges.words
  pub isn : s.isn < 2 ^ 31
  pub room : s.receiving.blocks.payload ≡ s.sending.blocks.room
  pub wide : max 2 (s.sending.blocks.room / 4) ≤ s.ranges.words
  pub taken : HasTakenNothing (phase_of s.phase) s.sending.blocks
