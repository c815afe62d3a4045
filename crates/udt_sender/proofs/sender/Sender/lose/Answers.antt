-- The ranges enter the list one by one.
use Rattle.std.proofs.Common.{◌≡◌, ℕ, ◌<◌, List, ◌∷◌, Option, ap, sym, subst, ◌∙◌}
use Rattle.std.specs.Prelude.{IfSome}
use Rattle.udt_model.specs.SendReports.{entering, with_ranges}
use Rattle.udt_packet.specs.Ranges.{range_from}
use Rattle.udt_model.specs.SendHalf.{Sending}
use Rattle.udt_sender.specs.Reports.{entering_of, least_of}
use Rattle.udt_sender.proofs.ReportLemmas.{enters_lost, enters_least, all_entered, all_compared}
use Rattle.udt_sender.proofs.sender.Sender.lose.Goals as goal

pub loop-first-preserved : goal.loop-first-preserved
loop-first-preserved g c =
    let s = c.args.self.now in
    let before = c.loop-first in
    let range = range_from (c.in-Some.first, c.in-Some.last) in
    let some : before.ranges ≡ range ∷ c.next.new.self = c.in-Some.ensures.some in
    let e = c.lose_range-least.ensures in
    let enters : entering_of before.self range ≡ entering_of s range = ap (λ (s : Sending g.row.C.Denot). entering_of s range) before.invariant.same in
    let next : c.lose_range-least.new.self ≡ record s { lost = with_ranges (entering_of s range) before.self.lost } =
    e.next ∙ ap (λ (s : Sending g.row.C.Denot). record s { lost = with_ranges (entering_of s range) before.self.lost }) before.invariant.same in
    let lost : c.lose_range-least.new.self.lost ≡ with_ranges (entering_of s range) before.self.lost = ap (λ (s : Sending g.row.C.Denot). s.lost) next in
    record {
      same = next ∙ ap (λ (ns : List ℕ). record s { lost = ns }) (sym lost);
      lost = ap (with_ranges (entering s c.next.new.self)) lost ∙ enters_lost s range c.next.new.self before.ranges before.self.lost some ∙ before.invariant.lost;
      least = ap (λ (least : Option ℕ). least_of least (entering s c.next.new.self)) (e.value ∙ ap (least_of before.least) enters)
          ∙ enters_least s range c.next.new.self before.ranges before.least some ∙ before.invariant.least;
      sent = subst (λ (s : Sending g.row.C.Denot). IfSome c.lose_range-least.result (λ first. first < s.next)) (sym e.next) e.sent;
    }

pub returns-clause-value : goal.returns-clause-value
returns-clause-value g c = sym (all_compared c.args.self.now c.loop-first.ranges c.loop-first.least c.in_default.ensures.none.0) ∙ c.loop-first.invariant.least

pub returns-clause-next : goal.returns-clause-next
returns-clause-next g c =
    let s = c.args.self.now in
    let before = c.loop-first in
    let lost = sym (all_entered s before.ranges before.self.lost c.in_default.ensures.none.0) ∙ before.invariant.lost in
    before.invariant.same ∙ ap (λ (ns : List ℕ). record s { lost = ns }) lost
