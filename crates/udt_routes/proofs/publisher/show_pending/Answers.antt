use Rattle.std.proofs.Common.{drop}
use Rattle.udt_routes.proofs.KeepingChanges.{applied_opened}
use Rattle.udt_routes.proofs.publisher.show_pending.Goals as goal

-- the copy is open already
pub show-requires-clause-opens : goal.show-requires-clause-opens
show-requires-clause-opens g c =
    applied_opened c.args.copies.desk.shown.value (drop c.args.copies.behind c.args.copies.log.items) c.requires.opened
