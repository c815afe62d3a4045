use Rattle.std.proofs.Common.{◌≡◌, ◌∙◌, ℕ, List, [], true, false, refl, sym, subst}
use Rattle.udt_tool.specs.Commands.{Outcome, spelled, is_command, faulty, Prints}
use Rattle.udt_tool.proofs.Orders.{no_command, ends_faulty}
use Rattle.udt_tool.proofs.Replaying.{unread_runs}
use Rattle.udt_tool.proofs.offline.run_plain.Goals as goal

-- the words are no command, and a part of the usage line was written
pub returns-in-None-clause-run : goal.returns-in-None-clause-run
returns-in-None-clause-run g c =
    let none : is_command (spelled c.args.words.now) ≡ false = no_command (spelled c.args.words.now) (sym c.in-None.ensures.known) in
    let there = c.in-None.ensures.none in
    rw (ends_faulty (spelled c.args.words.now) none, there.0)
    (unread_runs faulty _ _ c.print_usage.result refl refl (rw there.1 at c.print_usage.ensures.printed) (rw there.1 at c.print_usage.ensures.sink_failed))

pub returns-in-None-clause-command : goal.returns-in-None-clause-command
returns-in-None-clause-command g c = λ is _.
    let wrong : true ≡ false = sym is ∙ no_command (spelled c.args.words.now) (sym c.in-None.ensures.known) in
    cc

pub returns-in-None-clause-printed : goal.returns-in-None-clause-printed
returns-in-None-clause-printed g c = λ _.
    let none : is_command (spelled c.args.words.now) ≡ false = no_command (spelled c.args.words.now) (sym c.in-None.ensures.known) in
    let there = c.in-None.ensures.none in
    subst (λ (ends : List ℕ → Outcome). Prints (ends []) (g.K.Sink.taken c.args.out.now) (g.K.Sink.taken c.print_usage.new.out) c.print_usage.result)
    (sym (ends_faulty (spelled c.args.words.now) none)) (rw there.1 at c.print_usage.ensures.printed)
