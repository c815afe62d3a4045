use Rattle.std.proofs.Common.{◌≡◌, length, refl, sym, ◌∙◌}
use Rattle.udt_world.proofs.RunLemmas.{run_received, set_moved}
use Rattle.udt_world.proofs.generated.Run.recv.Goals as goal

-- b answers what the definitions say
pub returns-clause-run : goal.returns-clause-run
returns-clause-run g c = λ run is.
    let room : length c.deref_mut.result.now ≡ 4096 = c.deref_mut.ensures.len ∙ c.requires.set.room in
    let answers = rw room at c.recv-answer.ensures.value in
    run_received g.C.Control.ways run c.args.self.now _ c.args.now 4096 c.recv-answer.new.into c.recv-answer.result is
    (rw (sym c.recv-answer.auto.into) at c.recv-answer.ensures.within) answers refl refl (rw c.counted.ensures refl)

pub returns-clause-set : goal.returns-clause-set
returns-clause-set g c =
    let room : length c.deref_mut.result.now ≡ 4096 = c.deref_mut.ensures.len ∙ c.requires.set.room in
    let answers = rw room at c.recv-answer.ensures.value in
    set_moved g.C.Control.ways 1 _ c.args.self.now _ c.requires.set answers.moves c.recv-answer.ensures.wired refl refl
