-- What a tick does: the ACK timer first, then the NAK timer, then the EXP timer (draft-gg-udt-03, section 4).
use Rattle.std.specs.Prelude.{ℕ, ◌+◌, ◌-◌, ◌*◌, max, Bool, ◌&&◌, ◌||◌, List, [], ◌∷◌, ◌++◌, map, nat_lt, nat_le, if◌then◌else◌}
use Rattle.std.specs.List.{concat}
use Rattle.udt_model.specs.declared.limits.TheConstants.{EXP_LEAST_INTERVAL, EXP_MOST_COUNT, EXP_LEAST_SILENT, EXP_MOST_SILENT}
use Rattle.udt_model.specs.declared.answers.Cause.TheVariants as cause
use Rattle.udt_model.specs.declared.sockets.ExpOutcome.{ExpOutcome}
use Rattle.udt_model.specs.declared.sockets.ExpOutcome.TheVariants as exp
use Rattle.udt_model.specs.Losses.{LostRange}
use Rattle.udt_model.specs.Numbers.{sequence_number}
use Rattle.udt_model.specs.Phases.{Phase}
use Rattle.udt_model.specs.Phases as phase
use Rattle.udt_model.specs.Rate.{Ways}
use Rattle.udt_model.specs.ReceiveReports.{AckOutcome, IsEarly, IsKnown, EmitsAck, ack_outcome, after_ack_timer, full_ack, nak_report, after_nak_timer}
use Rattle.udt_model.specs.SendReports.{has_unacknowledged, after_timeout}
use Rattle.udt_model.specs.State.{State, Emission}
use Rattle.udt_model.specs.Timing.{period_of}
use Rattle.udt_model.specs.Events.{DidTick, Outcome, answered}
use Rattle.udt_model.specs.Calls.{stamp_of, emission}
use Rattle.udt_model.specs.Connections.{asks_again, meets_again}
use Rattle.udt_model.specs.Wire.{WireRange, KeepAlive, Ack, Nak, Shutdown}

-- both ends of a range
abbrev pub ends_of : LostRange → List ℕ
ends_of range = range.first ∷ range.last ∷ []

module _ {C : Type 0} where
  -- ---- ACKs and NAKs

  -- a full ACK names its offset
  abbrev pub emitted_by_ack : State C → AckOutcome → List Emission
  emitted_by_ack s IsEarly = []
  emitted_by_ack s IsKnown = []
  emitted_by_ack s (EmitsAck ack) =
      emission s (Ack ack.number (stamp_of s) s.peer.id (full_ack s.receiving s.rtt ack.offset)) (ack.offset ∷ []) ∷ []

  -- the sequence numbers of a range
  abbrev pub numbers_of : State C → LostRange → WireRange
  numbers_of s range = record {
    first = sequence_number s.receiving.isn range.first;
    last = sequence_number s.receiving.isn range.last;
  }

  -- one NAK of these ranges, where there are any. It names both ends of each
  abbrev pub nak_of : State C → List LostRange → List Emission
  nak_of s [] = []
  nak_of s (range ∷ ranges) =
      emission s (Nak (stamp_of s) s.peer.id (map (numbers_of s) (range ∷ ranges))) (concat (map ends_of (range ∷ ranges))) ∷ []

  -- the state once both timers of the receiving half were looked at
  abbrev pub after_reports : State C → State C
  after_reports s = record s { receiving = after_nak_timer (after_ack_timer s.receiving s.last s.rtt) s.last s.rtt }

  abbrev pub emitted_by_reports : State C → List Emission
  emitted_by_reports s =
      emitted_by_ack s (ack_outcome s.receiving s.last s.rtt) ++ nak_of s (nak_report s.receiving s.last s.rtt)

  -- ---- the EXP timer

  -- the EXP interval, in microseconds: longer each time that the timer fires without an arrival
  abbrev pub exp_interval : State C → ℕ
  exp_interval s = max (s.exp_count * period_of s.rtt) EXP_LEAST_INTERVAL

  -- the peer is given up after three minutes without an arrival, or after three seconds where the timer has fired often
  -- enough
  abbrev pub gives_up : State C → Bool
  gives_up s =
      (nat_lt EXP_MOST_COUNT s.exp_count && nat_le EXP_LEAST_SILENT (s.last - s.heard))
      || nat_le EXP_MOST_SILENT (s.last - s.heard)

  -- what the EXP timer does
  unfoldable pub exp_outcome : State C → ExpOutcome
  exp_outcome s =
      if nat_lt s.last (s.exp_from + exp_interval s)
      then exp.NotDue
      else (if gives_up s then exp.Breaks else (if has_unacknowledged s.sending then exp.LosesAll else exp.KeepsAlive))

  -- the timer starts anew, and has fired once more
  abbrev pub counts_exp : State C → State C
  counts_exp s = record s { exp_from = s.last; exp_count = s.exp_count + 1 }

  -- a keep-alive names no offset
  abbrev pub emitted_by_exp : State C → ExpOutcome → List Emission
  emitted_by_exp s exp.NotDue = []
  emitted_by_exp s exp.Breaks = []
  emitted_by_exp s exp.LosesAll = []
  emitted_by_exp s exp.KeepsAlive = emission s (KeepAlive (stamp_of s) s.peer.id) [] ∷ []

module _ {C : Type 0} (w : Ways C) where
  abbrev pub after_exp : State C → ExpOutcome → State C
  after_exp s exp.NotDue = s
  after_exp s exp.Breaks = record s { phase = phase.Broken cause.Expired }
  after_exp s exp.LosesAll = counts_exp (record s { sending = after_timeout w s.sending s.rtt })
  after_exp s exp.KeepsAlive = counts_exp s

  -- ---- ticks

  -- a closing socket sends a shutdown to its peer, and is closed
  abbrev pub tick_in : State C → Phase → Outcome C
  tick_in s phase.Connected = record {
    after = after_exp (after_reports s) (exp_outcome s);
    reply = DidTick;
    emissions = emitted_by_reports s ++ emitted_by_exp s (exp_outcome s);
  }
  tick_in s (phase.Connecting c again) = asks_again s c again
  tick_in s (phase.Meeting m again) = meets_again s m again
  tick_in s phase.Closing = record {
    after = record s { phase = phase.Closed };
    reply = DidTick;
    emissions = emission s (Shutdown (stamp_of s) s.peer.id) [] ∷ [];
  }
  tick_in s other = answered s DidTick

  abbrev pub on_tick : State C → Outcome C
  on_tick s = tick_in s s.phase
