use Rattle.std.proofs.Common.{refl}
use Rattle.udt_tool.specs.Commands.{generates}
use Rattle.udt_tool.proofs.Printing.{lost_printed}
use Rattle.udt_tool.proofs.offline.tell_world.Goals as goal

-- nothing was written yet
pub returns-in_default-clause-printed : goal.returns-in_default-clause-printed
returns-in_default-clause-printed g c = lost_printed (generates c.args.control c.args.n c.args.turns) (g.K.Sink.taken c.args.out.now) refl

pub returns-in-Err-clause-printed : goal.returns-in-Err-clause-printed
returns-in-Err-clause-printed g c = lost_printed (generates c.args.control c.args.n c.args.turns) (g.K.Sink.taken c.args.out.now) refl
