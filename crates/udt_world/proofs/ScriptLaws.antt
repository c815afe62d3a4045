-- Whatever the lines of a script deliver, its sockets keep what the main theorems say.
use Rattle.udt_model.specs.Rate.{Ways}
use Rattle.udt_laws.specs.Scripts.{ScriptAdoption, ScriptPrefix, ScriptMessages}
use Rattle.udt_laws.proofs.honest.ScriptPeers as peers
use Rattle.udt_laws.proofs.scripts.ScriptLawful.{script_lawful}

module _ {C : Type 0} (w : Ways C) where
  pub script_adoption : ScriptAdoption w
  script_adoption = peers.script_adoption w (script_lawful w)

  pub script_prefix : ScriptPrefix w
  script_prefix = peers.script_prefix w (script_lawful w)

  pub script_messages : ScriptMessages w
  script_messages = peers.script_messages w (script_lawful w)
