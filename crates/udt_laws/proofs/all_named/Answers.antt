-- Each event emits what it says.
use Rattle.udt_model.proofs.RecordLemmas.{emitted_by-sent}
use Rattle.udt_laws.proofs.all_named.Goals as goal

pub returns : goal.returns
returns g c = λ h legal. emitted_by-sent g.C.Control.ways h.opening h.items legal
