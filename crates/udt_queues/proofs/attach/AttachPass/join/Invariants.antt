use Rattle.std.proofs.Common.{◌≡◌, vec_len}
use Rattle.udt_queues.specs.Lists.{Absorbs}
use Rattle.udt_queues.specs.Messages.{lists_of}
use Rattle.udt_queues.proofs.Zips.{Zipped}
use Rattle.udt_queues.proofs.attach.AttachPass.join.Given as goal

abbrev pub invariant-loop-lane : goal.invariant-loop-lane
invariant-loop-lane g l = record {
  lists : lists_of l.self ≡ lists_of l.fn.self;
  zipped : Zipped Absorbs l.fn.self.lanes.items l.fn.gone.lanes.items l.self.lanes.items l.lanes.items;
}

abbrev pub decreases-loop-lane : goal.decreases-loop-lane
decreases-loop-lane g l = vec_len l.lanes
