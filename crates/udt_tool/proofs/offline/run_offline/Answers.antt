use Rattle.udt_tool.specs.Commands.{spelled}
use Rattle.udt_tool.proofs.ToldScripts.{runs_in_step}
use Rattle.udt_tool.proofs.offline.run_offline.Goals as goal

-- a script was replayed
pub returns-then-is_offline-clause-prefix : goal.returns-then-is_offline-clause-prefix
returns-then-is_offline-clause-prefix g c = λ is. runs_in_step (spelled c.args.words.now) _ _ c.do_words.result c.do_words.ensures.run is
