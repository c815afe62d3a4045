use Rattle.std.proofs.Common.{◌≡◌, ◌++◌, length}
use Rattle.udt_model.specs.Losses.{fitting_ranges}
use Rattle.udt_rcv_loss.proofs.plain.fitting.Given as goal

-- what was taken, and what fits of the rest, are all that fits
abbrev pub invariant-loop-run : goal.invariant-loop-run
invariant-loop-run l = l.taken.items ++ fitting_ranges l.left l.runs.items ≡ fitting_ranges l.initial.words l.initial.runs.items

abbrev pub decreases-loop-run : goal.decreases-loop-run
decreases-loop-run l = length l.runs.items
