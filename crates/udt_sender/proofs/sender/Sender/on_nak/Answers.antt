-- The control is told of the least offset.
use Rattle.std.proofs.Common.{◌≡◌, [], refl, ap, sym, ◌∙◌}
use Rattle.udt_model.specs.SendHalf.{Sending}
use Rattle.udt_model.specs.SendReports.{after_nak, entering, with_ranges}
use Rattle.udt_timing.specs.RoundTrips.{round_trip_of}
use Rattle.udt_sender.specs.Reports.{any_enters}
use Rattle.udt_sender.proofs.ReportLemmas.{none_enters, some_enters, told, tells_least}
use Rattle.udt_sender.proofs.sender.Sender.on_nak.Goals as goal
use Rattle.udt_sender.proofs.sender.Sender.on_nak.Goals.{In_default}

-- no range enters
none : (g : _) (c : In_default g) → entering c.args.self.now c.args.ranges ≡ []
none g c = none_enters (entering c.args.self.now c.args.ranges) (sym c.in_default.is ∙ c.lose.ensures.value)

pub returns-in_default-clause-value : goal.returns-in_default-clause-value
returns-in_default-clause-value g c = sym (ap any_enters (none g (goal.at.returns-in_default-clause-value g c).In_default))

pub returns-in_default-clause-next : goal.returns-in_default-clause-next
unfolding after_nak with_ranges
returns-in_default-clause-next g c = c.lose.ensures.next ∙ rw (none g (goal.at.returns-in_default-clause-next g c).In_default) refl

pub returns-in_default-clause-stale : goal.returns-in_default-clause-stale
unfolding with_ranges
returns-in_default-clause-stale g c stale = c.lose.ensures.next ∙ rw (none g (goal.at.returns-in_default-clause-stale g c).In_default) refl

pub returns-clause-value : goal.returns-clause-value
returns-clause-value g c = sym (some_enters (entering c.args.self.now c.args.ranges) c.in-Some.first c.in-Some.ensures.value)

pub returns-clause-next : goal.returns-clause-next
unfolding after_nak
returns-clause-next g c =
    let w = g.C.Control.ways in
    let known = round_trip_of c.args.rtt.now in
    let lost = c.self.view_is ∙ c.lose.ensures.next in
    rw (c.tell_nak.ensures, c.seen-seen.ensures)
    (ap (λ (s : Sending g.row.C.Denot). told w s known c.in-Some.first) lost
    ∙ sym (tells_least w c.args.self.now known (entering c.args.self.now c.args.ranges) c.in-Some.first c.in-Some.ensures.value))
