-- What is left of the pass that went is joined from its end on.
use Rattle.std.proofs.Common.{◌≤◌, ◌∙◌, length, arith}
use Rattle.udt_queues.specs.Lists.{Absorbs}
use Rattle.udt_queues.proofs.Zips.{zip_more}
use Rattle.udt_queues.proofs.Sending.{one_list, lists_kept}
use Rattle.udt_queues.proofs.attach.AttachPass.join.Goals as goal

pub absorb-requires : goal.absorb-requires
absorb-requires g c =
    let i = c.loop-lane.invariant in
    one_list _ _ _ _ _ _ _ c.requires i.lists c.in-Some.ensures.items i.zipped _ (c.len-at.ensures ∙ c.pop.new.self.ok.0) c.index_mut.ensures.value

pub loop-lane-preserved : goal.loop-lane-preserved
loop-lane-preserved g c =
    let i = c.loop-lane.invariant in
    record {
      lists = lists_kept _ _ _ _ c.index_mut.ensures.value c.absorb.ensures.list ∙ i.lists;
      zipped = zip_more Absorbs _ _ _ _ _ _ _ _ c.in-Some.ensures.items i.zipped _ (c.len-at.ensures ∙ c.pop.new.self.ok.0) c.index_mut.ensures.value c.absorb.ensures;
    }

pub returns-clause-joins : goal.returns-clause-joins
returns-clause-joins g c k x y z at there now =
    let none : length c.loop-lane.lanes.items ≤ k = omega (arith, c.in_default.ensures.cases.0, c.loop-lane.lanes.ok.0) in
    c.loop-lane.invariant.zipped.done k x y z none at there now
