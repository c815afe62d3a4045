-- The least of the tree is the first of the schedule.
use Rattle.std.proofs.Common.{subst}
use Rattle.udt_queues.specs.Timetable.{Timetable}
use Rattle.udt_queues.specs.Listings.{IsFirst}
use Rattle.udt_queues.proofs.Listed.{least_listed}
use Rattle.udt_queues.proofs.schedule.Schedule.first.Goals as goal

pub returns-in-Some-clause-some : goal.returns-in-Some-clause-some
returns-in-Some-clause-some c =
    let m = c.in-Some.least in
    subst (λ (t : Timetable). IsFirst (m.at, m.id) t.listings) c.self.view_is (least_listed m c.self.inside.tree c.self.invariant.rising c.in-Some.ensures.some)
