-- One moment is placed.
use Rattle.std.proofs.Common.{◌≡◌, ◌==◌, Some, length, sym, ap, ◌∙◌, subst, arith}
use Rattle.std.specs.Prelude.{if◌then◌else◌}
use Rattle.udt_queues.specs.declared.tree.Listing.{Listing}
use Rattle.udt_queues.specs.Timetable.{Timetable}
use Rattle.udt_queues.specs.Listings.{IsRising, moment_of, place}
use Rattle.udt_queues.proofs.Listed.{rising_placed, moment_placed}
use Rattle.udt_queues.proofs.schedule.Schedule.put.Goals as goal

pub invariant_of-self : goal.invariant_of-self
invariant_of-self c =
    let fresh : Listing = record { at = c.args.at; id = c.args.id } in
    let e : c.insert.result ≡ place fresh c.self.inside.tree = cc in
    let size = ap (λ t. length t) c.replace-tree.ensures.value in
    record {
      rising = subst IsRising (sym e) (rising_placed fresh c.self.inside.tree c.self.invariant.rising);
      room = omega (arith, c.insert.ensures.stock, c.insert.ensures.capacity, c.self.invariant.room, size);
    }

pub returns-clause-moments : goal.returns-clause-moments
returns-clause-moments c q =
    let fresh : Listing = record { at = c.args.at; id = c.args.id } in
    let e : c.insert.result ≡ place fresh c.self.inside.tree = cc in
    subst (λ (t : Timetable). moment_of q c.insert.result ≡ (if c.args.id == q then Some c.args.at else moment_of q t.listings)) c.self.view_is
    (ap (moment_of q) e ∙ moment_placed fresh c.self.inside.tree q)
