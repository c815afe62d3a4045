use Rattle.std.specs.Prelude.{IfSome}
use Rattle.std.proofs.Common.{refl}
use Rattle.udt_tool.specs.Commands.{replays}
use Rattle.udt_tool.specs.Streamed.{ReadsScript}
use Rattle.udt_tool.proofs.Replaying.{read_runs, source_failed_runs, lost_runs}
use Rattle.udt_tool.proofs.offline.replay.Goals as goal

-- the script was read, and what it plays was written
pub returns-in-Ok-clause-run : goal.returns-in-Ok-clause-run
returns-in-Ok-clause-run g c =
    let read : IfSome (g.S.Source.left c.args.input.now) (λ left. ReadsScript left (g.S.Source.left c.read_all.new.input) c.deref.result.now) =
    rw c.deref.ensures.value c.in-Ok.ensures.ok in
    read_runs c.args.control _ _ c.deref.result.now c.play_out.result read c.play_out.ensures.printed c.play_out.ensures.sink_failed

-- the script was not read, and nothing was written
pub returns-in-Err-SourceFailed-clause-run : goal.returns-in-Err-SourceFailed-clause-run
returns-in-Err-SourceFailed-clause-run g c =
    source_failed_runs (replays c.args.control) _ _ refl c.in-Err-SourceFailed.ensures.err
    (c.in-Err-SourceFailed.ensures.source_failed c.in-Err-SourceFailed.field-0-is)

pub returns-in-Err-OutOfMemory-clause-run : goal.returns-in-Err-OutOfMemory-clause-run
returns-in-Err-OutOfMemory-clause-run g c = lost_runs (replays c.args.control) _ _ refl c.in-Err-OutOfMemory.ensures.err
