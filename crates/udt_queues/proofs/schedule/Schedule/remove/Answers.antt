-- One moment goes.
use Rattle.std.proofs.Common.{◌≡◌, ◌==◌, None, length, sym, ap, ◌∙◌, subst, arith}
use Rattle.std.specs.Prelude.{if◌then◌else◌}
use Rattle.udt_queues.specs.Timetable.{Timetable}
use Rattle.udt_queues.specs.Listings.{IsRising, moment_of, without}
use Rattle.udt_queues.proofs.Listed.{rising_without, moment_without}
use Rattle.udt_queues.proofs.schedule.Schedule.remove.Goals as goal

pub invariant_of-self : goal.invariant_of-self
invariant_of-self c =
    let e : c.remove.result ≡ without c.args.id c.self.inside.tree = cc in
    let size = ap (λ t. length t) c.replace-tree.ensures.value in
    record {
      rising = subst IsRising (sym e) (rising_without c.args.id c.self.inside.tree c.self.invariant.rising);
      room = omega (arith, c.remove.ensures.stock, c.remove.ensures.capacity, c.self.invariant.room, size);
    }

pub returns-clause-moments : goal.returns-clause-moments
returns-clause-moments c q =
    let e : c.remove.result ≡ without c.args.id c.self.inside.tree = cc in
    subst (λ (t : Timetable). moment_of q c.remove.result ≡ (if c.args.id == q then None else moment_of q t.listings)) c.self.view_is
    (ap (moment_of q) e ∙ moment_without c.args.id c.self.inside.tree q c.self.invariant.rising)
