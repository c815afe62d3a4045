use Rattle.std.proofs.Common.{◌≡◌, ◌∙◌, get_or, option_map, sym, ap}
use Rattle.std.specs.List.{remove}
use Rattle.std.proofs.lemmas.Bool.{true≢false}
use Rattle.udt_timing.specs.AckHistories.{answer_of}
use Rattle.udt_timing.proofs.LastOnes.{last_under-none, without_last_under-none, took}
use Rattle.udt_timing.proofs.ack_history.AckWindow.take.Goals as goal

-- no entry has the number, so none is the last and all stay
pub returns-in_err-at-clause-value : goal.returns-in_err-at-clause-value
returns-in_err-at-clause-value c =
    c.from_residual.ensures ∙ sym (ap (option_map answer_of) (last_under-none c.args.number c.args.self.now c.in_err-at.ensures.none))

pub returns-in_err-at-clause-next : goal.returns-in_err-at-clause-next
returns-in_err-at-clause-next c = sym (without_last_under-none c.args.number c.args.self.now c.in_err-at.ensures.none)

-- the entry at the place that was found is the last with its number
pub returns : goal.returns
returns c =
    let entry = c.in_ok-entry.entry in
    let at = c.in_ok-at.at in
    let now = c.args.self.now in
    let view = sym c.self.view_is in
    let read : get_or now at entry ≡ entry = ap (λ es. get_or es at entry) view ∙ sym c.in_ok-entry.ensures.value in
    let named : entry.number ≡ c.args.number = ap (λ e. e.number) (sym read) ∙ c.in_ok-at.ensures.found entry in
    let out = took c.args.number now c.remove.new.self.items at entry c.in_ok-at.ensures.within read named c.in_ok-at.ensures.last (c.in_ok-entry.ensures.items ∙ ap (λ es. remove es at) (sym view)) in
    record {
      value = sym (ap (option_map answer_of) out.entry);
      next = out.others;
      none = (λ h. absurd (true≢false h), λ all. absurd (all at entry c.in_ok-at.ensures.within (c.in_ok-at.ensures.found entry)));
      some = out.between;
      others = out.kept;
    }
