use Rattle.std.proofs.Common.{◌++◌, ◌∷◌, [], drop, ap, ◌∙◌}
use Rattle.left_right.specs.Sides.{view}
use Rattle.udt_routes.specs.Copies.{changes_in}
use Rattle.udt_routes.specs.Publications.{Publication}
use Rattle.udt_routes.proofs.KeepingChanges.{changes_more}
use Rattle.udt_routes.proofs.publisher.Publisher.append.Goals as goal

-- one change more is pending
pub returns-clause-ok : goal.returns-clause-ok
returns-clause-ok c =
    let old = c.self.inside.copies in
    let desk = c.in-Ok.ensures.desk in
    let pending = ap changes_in c.in-Ok.ensures.pending ∙ changes_more (drop old.behind old.log.items) c.args.change in
    (λ i. record { live = (desk i).shown.value.table.live; published = (view (desk i).place).seen; pending = pending i })
    ∙ ap (λ (p : Publication). record p { pending = p.pending ++ c.args.change ∷ [] }) c.self.view_is
