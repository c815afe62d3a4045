use Rattle.std.proofs.Common.{◌+◌, refl, ap, arith}
use Rattle.std.specs.Prelude.{◌%◌, vec_len}
use Rattle.udt_world.specs.declared.generated.Run.{Run}
use Rattle.udt_world.proofs.RunLemmas.{sent_at_most, run_sent, set_moved}
use Rattle.udt_world.proofs.generated.Run.send.Goals as goal

-- no more bytes are taken than are sent
pub overflow_add-self : goal.overflow_add-self
overflow_add-self g c =
    let few = sent_at_most g.C.Control.ways 0 c.args.now c.draw.new.self.accepted (1 + c.draw.result % 4096)
    c.after-bytes.result.now c.send-answer.result _ _ c.after-bytes.ensures c.send-answer.ensures.value in
    let same = ap (λ (r : Run g.row.C.Denot). r.accepted) c.draw.ensures.next in
    omega (arith, few, same, c.requires.room, c.counted.ensures)

pub returns-clause-below : goal.returns-clause-below
returns-clause-below g c = λ most below.
    let few = sent_at_most g.C.Control.ways 0 c.args.now c.draw.new.self.accepted (1 + c.draw.result % 4096)
    c.after-bytes.result.now c.send-answer.result _ _ c.after-bytes.ensures c.send-answer.ensures.value in
    let same = ap (λ (r : Run g.row.C.Denot). r.accepted) c.draw.ensures.next in
    record {
      accepted = omega (arith, few, same, below.accepted, c.counted.ensures);
      delivered = omega (arith, ap (λ (r : Run g.row.C.Denot). r.delivered) c.draw.ensures.next, below.delivered);
    }

-- the bytes are those that follow, and a answers what the definitions say
pub returns-clause-run : goal.returns-clause-run
returns-clause-run g c = λ run is.
    let same = ap (λ (r : Run g.row.C.Denot). r.accepted) c.draw.ensures.next in
    run_sent g.C.Control.ways run c.args.self.now _ c.args.now c.after-bytes.result.now c.send-answer.result is
    (rw (c.draw.ensures.value, c.draw.ensures.next) at c.after-bytes.ensures)
    (rw c.draw.ensures.next at c.send-answer.ensures.value)
    (ap (λ (r : Run g.row.C.Denot). r.state) c.draw.ensures.next)
    (rw (same, c.counted.ensures) refl)
    (ap (λ (r : Run g.row.C.Denot). r.delivered) c.draw.ensures.next)

pub returns-clause-set : goal.returns-clause-set
returns-clause-set g c =
    let answers = rw c.draw.ensures.next at c.send-answer.ensures.value in
    set_moved g.C.Control.ways 0 _ c.args.self.now _ c.requires.set answers.moves c.send-answer.ensures.wired
    (ap (λ (r : Run g.row.C.Denot). r.pattern) c.draw.ensures.next)
    (ap (λ (r : Run g.row.C.Denot). vec_len r.room) c.draw.ensures.next)
