use Rattle.std.proofs.Common.{refl}
use Rattle.udt_ranges.specs.Ranges.{IsWithin}
use Rattle.udt_rcv_loss.proofs.list.RcvLoss.new.Goals as goal
use Rattle.udt_ranges.specs.Merging.{IsMaximal}
use Rattle.udt_rcv_loss.specs.Tags.{missing_in}

pub invariant_of-result : goal.invariant_of-result
unfolding IsMaximal IsWithin
invariant_of-result c = rw c.in_ok-ranges.ensures (record { maximal = tt; within = tt })

pub returns : goal.returns
unfolding missing_in
returns c = rw c.in_ok-ranges.ensures refl
