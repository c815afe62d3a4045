use Rattle.std.proofs.Common.{◌≡◌, length}
use Rattle.udt_queues.specs.Lists.{view_of, list_of, KeepsList}
use Rattle.udt_queues.specs.Starting.{taker_view, ArePutters}
use Rattle.udt_queues.proofs.building.putters.Given as goal

abbrev pub invariant-loop-j : goal.invariant-loop-j
invariant-loop-j g l = record {
  kept : KeepsList l.fn.owner l.owner;
  view : view_of l.owner ≡ taker_view l._j;
  len : length l.lanes.items ≡ l._j;
  putters : ArePutters (list_of l.fn.owner) l.lanes.items;
}
