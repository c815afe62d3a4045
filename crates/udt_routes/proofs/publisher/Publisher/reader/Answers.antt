use Rattle.udt_routes.proofs.KeepingChanges.{admits, forks, merges}
use Rattle.udt_routes.proofs.publisher.Publisher.reader.Goals as goal

-- a new end comes
pub reader-requires : goal.reader-requires
reader-requires c = admits

-- the writer tells
pub tell-requires : goal.tell-requires
tell-requires c = forks _ _

-- and the new end is told
pub learn-requires-clause-rule : goal.learn-requires-clause-rule
learn-requires-clause-rule c = merges _ _ _ _
