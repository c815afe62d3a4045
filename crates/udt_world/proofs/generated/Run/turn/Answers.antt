use Rattle.std.proofs.Common.{◌≡◌, ap, ◌∙◌, arith}
use Rattle.std.specs.Prelude.{◌%◌}
use Rattle.std.proofs.lemmas.Result.{on_ok_weaker}
use Rattle.udt_model.specs.Draws.{draw}
use Rattle.udt_world.proofs.RunLemmas.{run_drawn, turn_sends, turn_receives, turn_packs, turn_ticks, turn_delivers}
use Rattle.udt_world.proofs.generated.Run.turn.Goals as goal

-- a sends
pub returns-then-kind-eq0-clause-run : goal.returns-then-kind-eq0-clause-run
returns-then-kind-eq0-clause-run g c = λ run is.
    let drawn = run_drawn g.C.Control.ways run c.args.self.now c.draw-kind.new.self is c.draw-kind.ensures.next in
    let kind : c.draw-kind.result % 8 ≡ draw run.state % 8 =
    ap (λ d. d % 8) (c.draw-kind.ensures.value ∙ ap (λ s. draw s) is.state) in
    rw (turn_sends g.C.Control.ways run c.args.now _ kind c.if-kind-eq0.true) (c.send.ensures.run _ drawn)

-- b receives
pub returns-then-kind-eq1-clause-run : goal.returns-then-kind-eq1-clause-run
returns-then-kind-eq1-clause-run g c = λ run is.
    let drawn = run_drawn g.C.Control.ways run c.args.self.now c.draw-kind.new.self is c.draw-kind.ensures.next in
    let kind : c.draw-kind.result % 8 ≡ draw run.state % 8 =
    ap (λ d. d % 8) (c.draw-kind.ensures.value ∙ ap (λ s. draw s) is.state) in
    rw (turn_receives g.C.Control.ways run c.args.now _ kind c.if-kind-eq1.true) (c.recv.ensures.run _ drawn)

-- a packs
pub returns-then-kind-lt4-clause-run : goal.returns-then-kind-lt4-clause-run
returns-then-kind-lt4-clause-run g c = on_ok_weaker c.pack.result
    (λ packs run is.
    let drawn = run_drawn g.C.Control.ways run c.args.self.now c.draw-kind.new.self is c.draw-kind.ensures.next in
    let kind : c.draw-kind.result % 8 ≡ draw run.state % 8 =
    ap (λ d. d % 8) (c.draw-kind.ensures.value ∙ ap (λ s. draw s) is.state) in
    rw (turn_packs g.C.Control.ways run c.args.now _ kind (omega (arith, c.if-kind-eq0.false, c.if-kind-eq1.false))
    (omega (arith, c.if-kind-lt4.true))) (packs _ drawn))
    c.pack.ensures.run

-- both tick
pub returns-then-kind-eq4-clause-run : goal.returns-then-kind-eq4-clause-run
returns-then-kind-eq4-clause-run g c = on_ok_weaker c.tick.result
    (λ ticks run is.
    let drawn = run_drawn g.C.Control.ways run c.args.self.now c.draw-kind.new.self is c.draw-kind.ensures.next in
    let kind : c.draw-kind.result % 8 ≡ draw run.state % 8 =
    ap (λ d. d % 8) (c.draw-kind.ensures.value ∙ ap (λ s. draw s) is.state) in
    rw (turn_ticks g.C.Control.ways run c.args.now _ kind c.if-kind-eq4.true) (ticks _ drawn))
    c.tick.ensures.run

-- a datagram is delivered
pub returns-clause-run : goal.returns-clause-run
returns-clause-run g c = on_ok_weaker c.deliver.result
    (λ delivers run is.
    let drawn = run_drawn g.C.Control.ways run c.args.self.now c.draw-kind.new.self is c.draw-kind.ensures.next in
    let kind : c.draw-kind.result % 8 ≡ draw run.state % 8 =
    ap (λ d. d % 8) (c.draw-kind.ensures.value ∙ ap (λ s. draw s) is.state) in
    rw (turn_delivers g.C.Control.ways run c.args.now _ kind (omega (arith, c.if-kind-lt4.false, c.if-kind-eq4.false)))
    (delivers _ drawn))
    c.deliver.ensures.run
