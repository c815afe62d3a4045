use Rattle.std.proofs.Common.{drop}
use Rattle.udt_routes.specs.Copies.{changes_in}
use Rattle.udt_routes.proofs.publisher.show_pending.Given as goal

-- all that is pending
abbrev pub ghosts-show : goal.ghosts-show
ghosts-show g a = record { changes = changes_in (drop a.copies.behind a.copies.log.items) }
