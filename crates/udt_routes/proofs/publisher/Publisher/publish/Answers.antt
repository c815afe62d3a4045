use Rattle.std.proofs.Common.{◌++◌, [], drop, ap, ◌∙◌}
use Rattle.udt_routes.specs.Copies.{changes_in}
use Rattle.udt_routes.specs.Publications.{Publication}
use Rattle.udt_routes.specs.declared.published.View.{View}
use Rattle.udt_routes.proofs.KeepingChanges.{goes_on, live_on}
use Rattle.udt_routes.proofs.publisher.Publisher.publish.Goals as goal

-- what is published goes on: the clauses of `show_pending` are its copy, its pending operations and its view
pub invariant_of-self : goal.invariant_of-self
invariant_of-self g c =
    let old = c.self.inside.copies in
    let shown = c.replace_with.ensures in
    goes_on old.desk.shown.value _ _ _ (drop old.behind old.log.items) c.self.invariant shown.0 shown.1.1

-- by all that was pending
pub returns : goal.returns
returns g c =
    let old = c.self.inside.copies in
    let shown = c.replace_with.ensures in
    let live = live_on old.desk.shown.value _ (drop old.behind old.log.items) shown.0 in
    let published = ap (λ (v : View). v.seen) shown.1.1 in
    let pending = ap changes_in shown.1.0 in
    (λ i. record { live = live i; published = published i; pending = pending i })
    ∙ ap (λ (p : Publication). record { live = p.live; published = p.published ++ p.pending; pending = [] }) c.self.view_is
