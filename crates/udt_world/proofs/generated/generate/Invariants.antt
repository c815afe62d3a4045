use Rattle.std.proofs.Common.{◌*◌}
use Rattle.udt_model.specs.Generated.{generated}
use Rattle.udt_world.specs.Runs.{IsBelow, IsRun, IsSet}
use Rattle.udt_world.proofs.generated.generate.Given as goal

abbrev pub invariant-loop-turn : goal.invariant-loop-turn
invariant-loop-turn g l = record {
  run : IsRun g.C.Control.ways (generated g.C.Control.ways l.n l.turn) l.run;
  set : IsSet l.run;
  below : IsBelow l.run (4096 * l.turn);
}
