use Rattle.udt_routes.proofs.KeepingChanges.{keeps_first}
use Rattle.udt_routes.proofs.publisher.Publisher.new.Goals as goal

-- nothing is published yet
pub new-requires-3-clause-rule : goal.new-requires-3-clause-rule
new-requires-3-clause-rule g c = keeps_first c.in_ok-first.first c.args.live c.in_ok-first.ensures
