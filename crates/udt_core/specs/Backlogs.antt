-- A listener's requests, as they lie in memory.
use Rattle.std.specs.Prelude.{◌+◌, ◌≤◌, length, vec_capacity}
use Rattle.udt_model.specs.declared.limits.TheConstants.{MOST_BACKLOG}
use Rattle.udt_model.specs.declared.handshakes.Verdict.{Verdict}
use Rattle.udt_model.specs.declared.handshakes.Verdict.TheVariants as verdict
use Rattle.udt_model.specs.Phases.{Backlog}
use Rattle.udt_core.specs.declared.phase.Backlog.TheInside.{Inside}

abbrev pub backlog_of : Inside → Backlog
backlog_of b = record { listening = b.listening; most = b.most; offered = b.offered.items; promised = b.promised }

-- no more is offered and promised than there may be, for which there is room
pub record IsBacklog (b : Inside) : Type 0 where
  pub within : length b.offered.items + b.promised ≤ b.most
  pub few : b.most ≤ MOST_BACKLOG
  pub room : b.most ≤ vec_capacity b.offered

-- a request gets a place, and what else is judged changes nothing
abbrev pub promised_by : Backlog → Verdict → Backlog
promised_by b verdict.Request = record b { promised = b.promised + 1 }
promised_by b (verdict.Cookie answer) = b
promised_by b (verdict.Reject answer) = b
