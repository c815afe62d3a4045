use Rattle.std.proofs.Common.{◌≡◌, ◌^◌, ◌<◌, Some, sym, ap, ◌∙◌, subst}
use Rattle.udt_turn.specs.History.{value_of}
use Rattle.udt_turn.specs.Words.{found_by, number_of}
use Rattle.udt_turn.proofs.Histories.{value_after-push}
use Rattle.udt_turn.proofs.held.Held.publish.Goals as goal

-- what was found began with what the pass had seen, and the item is at its end. The value that was published is the one after it
pub returns-clause-adds : goal.returns-clause-adds
returns-clause-adds g c e named =
    let t = g.V.Story.tale in
    let h = c.requires.held in
    let f = c.finish.ensures in
    let i = c.requires.item in
    let found = found_by c.args.self in
    let is : i.entry ≡ e = some_is i.entry e (sym i.named ∙ named) in
    let value = i.value ∙ ap (λ x. t.after (value_of t found) x) is ∙ sym (value_after-push t found.opening found.items (number_of c.args.self.pass.now, e)) ∙ ap (value_of t) (sym (f.seen e named)) in
    record { found = _; later = (h.sees.rest, h.sees.is); seen = f.seen e named; mine = f.mine e named; few = subst (λ v. t.count v < 2 ^ 55) value i.most; sound = f.sound }
  where
    some_is : {A : Type 0} (a b : A) → Some a ≡ Some b → a ≡ b
    some_is a b h = cc
