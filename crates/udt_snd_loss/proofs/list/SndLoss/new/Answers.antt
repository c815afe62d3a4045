use Rattle.std.proofs.Common.{refl}
use Rattle.udt_ranges.specs.Ranges.{Rises, items_of}
use Rattle.udt_ranges.specs.Merging.{IsMaximal}
use Rattle.udt_snd_loss.proofs.list.SndLoss.new.Goals as goal

pub invariant_of-result : goal.invariant_of-result
unfolding IsMaximal Rises items_of
invariant_of-result c =
    rw c.in_ok-ranges.ensures (record { maximal = tt; rises = tt; counted = refl })

pub returns : goal.returns
unfolding items_of
returns c = rw c.in_ok-ranges.ensures refl
