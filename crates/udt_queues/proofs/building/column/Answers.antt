-- The owner's right is joined at its place.
use Rattle.std.proofs.Common.{sym, ap, ◌∙◌, subst}
use Rattle.udt_queues.specs.Starting.{ArePutters}
use Rattle.udt_queues.proofs.ListByList.{column_is}
use Rattle.udt_queues.proofs.building.column.Goals as goal

pub returns : goal.returns
returns g c = column_is c.args.takers c.args.places c.args.own _ c.putters.new.owner _ _ c.in_ok-lanes.ensures.len c.requires.own
    (subst (λ t. ArePutters t c.in_ok-lanes.lanes.items) (sym c.putters.ensures.kept.list) c.in_ok-lanes.ensures.putters)
    c.in_ok-lanes.ensures.view
    (c.putters.ensures.kept.takes ∙ c.in_ok-owner.ensures.takes)
    (ap (λ t. t.1) c.putters.ensures.kept.list ∙ c.in_ok-owner.ensures.room)
    c.index_mut.ensures.value c.absorb.ensures
