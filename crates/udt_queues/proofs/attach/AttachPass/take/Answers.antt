-- The right to one list changed, after others were found empty.
use Rattle.std.proofs.Common.{◌<◌, ◌∙◌, length, arith}
use Rattle.udt_queues.specs.Lists.{view_of, list_of}
use Rattle.udt_queues.proofs.Sending.{same_sizes, within_map, lists_kept, takes_kept, views_kept, takes_at, found_more}
use Rattle.udt_queues.proofs.attach.AttachPass.take.Goals as goal

pub returns-in-Some-clause-some : goal.returns-in-Some-clause-some
returns-in-Some-clause-some g c =
    let i = c.loop-i.invariant in
    let lt : c.loop-i.i < length c.loop-i.self.lanes.items = omega (arith, c.loop-i-test.true, c.len-i-end.ensures, c.args.self.now.lanes.ok.0, same_sizes list_of c.loop-i.self.lanes.items c.args.self.now.lanes.items i.lists) in
    takes_at _ _ _ _ lt c.index_mut.ensures.value _ _ _ i.views i.takes c.in-Some.ensures.may c.in-Some.ensures.some

pub returns-in-Some-clause-lists : goal.returns-in-Some-clause-lists
returns-in-Some-clause-lists g c =
    let i = c.loop-i.invariant in
    lists_kept _ _ _ _ c.index_mut.ensures.value c.take.ensures.kept.list ∙ i.lists

pub returns-in-Some-clause-takes : goal.returns-in-Some-clause-takes
returns-in-Some-clause-takes g c =
    let i = c.loop-i.invariant in
    takes_kept _ _ _ _ c.index_mut.ensures.value c.take.ensures.kept.takes ∙ i.takes

pub loop-i-preserved : goal.loop-i-preserved
loop-i-preserved g c =
    let i = c.loop-i.invariant in
    let lt : c.loop-i.i < length c.loop-i.self.lanes.items = omega (arith, c.loop-i-test.true, c.len-i-end.ensures, c.args.self.now.lanes.ok.0, same_sizes list_of c.loop-i.self.lanes.items c.args.self.now.lanes.items i.lists) in
    let value = c.index_mut.ensures.value in
    record {
      views = views_kept _ _ _ _ value c.in-None.ensures.same ∙ i.views;
      takes = takes_kept _ _ _ _ value c.take.ensures.kept.takes ∙ i.takes;
      lists = lists_kept _ _ _ _ value c.take.ensures.kept.list ∙ i.lists;
      found = found_more _ _ _ c.take.new.self lt value _ _ i.views i.takes c.in-None.ensures.none i.found;
    }

pub returns-clause-none : goal.returns-clause-none
returns-clause-none g c i v may there =
    let lt = within_map view_of c.args.self.now.lanes.items i v there in
    c.loop-i.invariant.found i v (omega (arith, lt, c.loop-i-test.false, c.len-i-end.ensures, c.args.self.now.lanes.ok.0)) may there
