-- The law is proved beside the lemmas on which it stands.
use Rattle.udt_laws.proofs.scripts.ScriptLawful.{script_lawful}
use Rattle.udt_laws.proofs.script_lawful.Goals as goal

pub returns : goal.returns
returns g c = script_lawful g.C.Control.ways
