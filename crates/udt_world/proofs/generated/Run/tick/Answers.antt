use Rattle.std.proofs.Common.{refl}
use Rattle.std.proofs.lemmas.Result.{on_ok_weaker}
use Rattle.udt_model.specs.Events.{Tick}
use Rattle.udt_world.specs.declared.generated.Run.{Run}
use Rattle.udt_world.proofs.RunLemmas.{may_tick, on_ok_both, run_quiet_first, run_ticked_second, set_moved}
use Rattle.udt_world.proofs.generated.Run.tick.Goals as goal

pub move_on-requires-clause-may : goal.move_on-requires-clause-may
move_on-requires-clause-may g c = may_tick _ _

pub move_on-requires-2-clause-may : goal.move_on-requires-2-clause-may
move_on-requires-2-clause-may g c = may_tick _ _

-- first a ticks, then b
pub returns-clause-run : goal.returns-clause-run
returns-clause-run g c =
    let between : Run g.row.C.Denot = record c.args.self.now { network = c.move_on.new.self } in
    on_ok_weaker c.move_on-2.result
    (λ moves run is.
    let ticked = run_quiet_first g.C.Control.ways run c.args.self.now between c.args.now Tick is
    (λ n place socket. refl) (λ reply. refl) c.in_ok-move_on.ensures.moves refl refl refl in
    run_ticked_second g.C.Control.ways _ between _ c.args.now ticked moves refl refl refl)
    c.move_on-2.ensures.moves

pub returns-clause-set : goal.returns-clause-set
returns-clause-set g c =
    let between : Run g.row.C.Denot = record c.args.self.now { network = c.move_on.new.self } in
    let set = set_moved g.C.Control.ways 0 _ c.args.self.now between c.requires c.in_ok-move_on.ensures.moves
    c.in_ok-move_on.ensures.wired refl refl in
    on_ok_both c.move_on-2.result
    (λ moves wired. set_moved g.C.Control.ways 1 _ between _ set moves wired refl refl)
    c.move_on-2.ensures.moves c.move_on-2.ensures.wired
