use Rattle.udt_model.specs.Script.{played}
use Rattle.udt_tool.specs.Commands.{replays}
use Rattle.udt_tool.proofs.Printing.{lost_printed, replay_late}
use Rattle.udt_tool.proofs.offline.play_out.Goals as goal

-- nothing was written yet
pub returns-in-Err-clause-printed : goal.returns-in-Err-clause-printed
returns-in-Err-clause-printed g c =
    lost_printed (replays c.args.control c.args.script.now) (g.K.Sink.taken c.args.out.now) (replay_late (played c.args.control c.args.script.now))
