use Rattle.udt_routes.proofs.KeepingChanges.{reads}
use Rattle.udt_routes.proofs.route_reader.read_once.Goals as goal

-- a reading keeps the rule
pub enter_as-requires : goal.enter_as-requires
enter_as-requires c x = reads _ _ x
