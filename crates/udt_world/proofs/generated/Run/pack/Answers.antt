use Rattle.std.proofs.Common.{refl}
use Rattle.std.proofs.lemmas.Result.{on_ok_weaker}
use Rattle.udt_model.specs.Events.{Pack}
use Rattle.udt_world.proofs.RunLemmas.{may_pack, on_ok_both, run_quiet_first, set_moved}
use Rattle.udt_world.proofs.generated.Run.pack.Goals as goal

pub move_on-requires-clause-may : goal.move_on-requires-clause-may
move_on-requires-clause-may g c = may_pack _ _

-- the socket a packs, and takes no bytes
pub returns-clause-run : goal.returns-clause-run
returns-clause-run g c =
    on_ok_weaker c.move_on.result
    (λ moves run is. run_quiet_first g.C.Control.ways run c.args.self.now _ c.args.now Pack is
    (λ n place socket. refl) (λ reply. refl) moves refl refl refl)
    c.move_on.ensures.moves

pub returns-clause-set : goal.returns-clause-set
returns-clause-set g c =
    on_ok_both c.move_on.result
    (λ moves wired. set_moved g.C.Control.ways 0 _ c.args.self.now _ c.requires moves wired refl refl)
    c.move_on.ensures.moves c.move_on.ensures.wired
