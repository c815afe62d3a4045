-- The right to one list changed, and what is said of all lists follows.
use Rattle.std.proofs.Common.{Bool, false}
use Rattle.udt_queues.specs.Lists.{view_of, list_of}
use Rattle.udt_queues.proofs.Sending.{within_map, got_of, lists_kept, takes_kept, views_kept, sends}
use Rattle.udt_queues.proofs.attach.AttachPass.send.Goals as goal

pub returns-in-Ok-clause-ok : goal.returns-in-Ok-clause-ok
returns-in-Ok-clause-ok g c = sends _ _ _ _ (within_map _ _ _ _ c.requires) c.index_mut.ensures.value _ c.in-Ok.ensures.ok

pub returns-in-Ok-clause-lists : goal.returns-in-Ok-clause-lists
returns-in-Ok-clause-lists g c = lists_kept _ _ _ _ c.index_mut.ensures.value c.put.ensures.kept.list

pub returns-in-Ok-clause-takes : goal.returns-in-Ok-clause-takes
returns-in-Ok-clause-takes g c = takes_kept _ _ _ _ c.index_mut.ensures.value c.put.ensures.kept.takes

pub returns-in-Err-clause-err : goal.returns-in-Err-clause-err
returns-in-Err-clause-err g c = views_kept _ _ _ _ c.index_mut.ensures.value c.in-Err.ensures.err

pub returns-in-Err-clause-full : goal.returns-in-Err-clause-full
returns-in-Err-clause-full g c =
    let lane = c.index_mut.result.now in
    let lt = within_map {B = Bool} (λ l. l.takes) c.args.self.now.lanes.items c.args.to false c.requires in
    let value = c.index_mut.ensures.value in
    (view_of lane, list_of lane, got_of view_of c.args.self.now.lanes.items c.args.to lane lt value, got_of list_of c.args.self.now.lanes.items c.args.to lane lt value, c.in-Err.ensures.full)

pub returns-in-Err-clause-lists : goal.returns-in-Err-clause-lists
returns-in-Err-clause-lists g c = lists_kept _ _ _ _ c.index_mut.ensures.value c.put.ensures.kept.list

pub returns-in-Err-clause-takes : goal.returns-in-Err-clause-takes
returns-in-Err-clause-takes g c = takes_kept _ _ _ _ c.index_mut.ensures.value c.put.ensures.kept.takes
