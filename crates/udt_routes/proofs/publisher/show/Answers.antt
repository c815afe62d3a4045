use Rattle.std.proofs.Common.{drop}
use Rattle.udt_routes.proofs.KeepingChanges.{publishes}
use Rattle.udt_routes.proofs.publisher.show.Goals as goal

-- the rule stays
pub publish_as-requires : goal.publish_as-requires
publish_as-requires g c next is =
    publishes _ _ _ (drop c.args.copies.behind c.args.copies.log.items) _ next c.requires.named c.requires.ready c.requires.opens is
