-- What has entered the list and what is still to enter it make the whole.
use Rattle.std.proofs.Common.{◌≡◌, ◌<◌, length}
use Rattle.std.specs.Prelude.{IfSome}
use Rattle.udt_model.specs.SendReports.{entering, with_ranges}
use Rattle.udt_sender.specs.Reports.{least_of}
use Rattle.udt_sender.proofs.sender.Sender.lose.Given as goal

abbrev pub invariant-loop-first : goal.invariant-loop-first
invariant-loop-first g l = record {
  same : l.self ≡ record (l.initial.self) { lost = l.self.lost };
  lost : with_ranges (entering l.initial.self l.ranges) l.self.lost ≡ with_ranges (entering l.initial.self l.initial.ranges) l.initial.self.lost;
  least : least_of l.least (entering l.initial.self l.ranges) ≡ least_of l.initial.least (entering l.initial.self l.initial.ranges);
  sent : IfSome l.least (λ first. first < l.self.next);
}

abbrev pub decreases-loop-first : goal.decreases-loop-first
decreases-loop-first g l = length l.ranges
