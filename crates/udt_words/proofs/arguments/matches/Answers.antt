use Rattle.std.proofs.Common.{◌≡◌, ◌∙◌, ap, ap₂, codes, rules, subst, IfOk}
use Rattle.clap.specs.Words.{App, FailsBy, HasMatchesOf, app_of, fault_of, is_simple_and_free, new_rule, rule_of, with_rule}
use Rattle.udt_words.specs.Table.{spelled}
use Rattle.udt_words.proofs.Positionals.{command, command_is_free, finds, fails_by}
use Rattle.udt_words.proofs.arguments.matches.Goals as goal

-- the command is the one of the lemmas
made : (c : goal.After-try_get_matches_from) → app_of c.in_ok-command.command ≡ command
made c =
    let first_is : rule_of c.new-first.result ≡ new_rule (codes "first") = search rules in
    let second_is : rule_of c.new-second.result ≡ new_rule (codes "second") = search rules in
    let third_is : rule_of c.new-third.result ≡ new_rule (codes "third") = search rules in
    let one = c.in_ok-arg.ensures.shape (search rules) ∙ ap₂ with_rule c.new.ensures.app first_is in
    let two = c.in_ok-arg-2.ensures.shape (search rules) ∙ ap₂ with_rule one second_is in
    c.in_ok-command.ensures.shape (search rules) ∙ ap₂ with_rule two third_is

faults : (c : goal.After-try_get_matches_from) → FailsBy (fault_of command (spelled c.args.words.now)) c.try_get_matches_from.result
faults c =
    subst (λ (a : App). FailsBy (fault_of a (spelled c.args.words.now)) c.try_get_matches_from.result) (made c)
    (c.try_get_matches_from.ensures.kinds (ap is_simple_and_free (made c) ∙ command_is_free))

pub returns-clause-ok : goal.returns-clause-ok
returns-clause-ok c =
    finds (spelled c.args.words.now) c.try_get_matches_from.result c.requires (faults c)
    (subst (λ (a : App). IfOk c.try_get_matches_from.result (HasMatchesOf a (spelled c.args.words.now))) (made c) c.try_get_matches_from.ensures.matches)

pub returns-clause-err : goal.returns-clause-err
returns-clause-err c = fails_by (spelled c.args.words.now) c.try_get_matches_from.result c.requires (faults c)
