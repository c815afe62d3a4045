-- One right more is made of the owner's.
use Rattle.std.proofs.Common.{ap, ◌∙◌}
use Rattle.udt_queues.specs.Passing.{served, putter_of}
use Rattle.udt_queues.proofs.ListByList.{putters_push}
use Rattle.udt_queues.proofs.building.putters.Goals as goal

pub loop-j-preserved : goal.loop-j-preserved
loop-j-preserved g c =
    let i = c.loop-j.invariant in
    let more = putters_push _ _ _ _ _ c.in-Ok.ensures.items i.len i.putters (c.in_ok-lane.ensures.new ∙ ap putter_of i.view) c.in_ok-lane.ensures.takes (c.in_ok-lane.ensures.list ∙ i.kept.list) in
    record {
      kept = record { list = c.putter.ensures.kept.list ∙ i.kept.list; takes = c.putter.ensures.kept.takes ∙ i.kept.takes };
      view = c.in_ok-lane.ensures.view ∙ ap served i.view;
      len = more.1;
      putters = more.0;
    }
