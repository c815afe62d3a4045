-- Two reports that pass for the same are one.
use Rattle.std.proofs.Common.{◌≡◌, true, eqb, ap, ◌∙◌}
use Rattle.std.proofs.lemmas.Bool.{eqb-true, and_parts}
use Rattle.udt_rcv_loss.specs.Tags.{same_report}
use Rattle.udt_rcv_loss.specs.declared.last_report.LastReport.{LastReport}

pub same_report_only : (a b : LastReport) → same_report a b ≡ true → a ≡ b
same_report_only a b h =
    let both = and_parts (eqb a.reported b.reported) (eqb a.wait b.wait) h in
    ap (λ reported. record a { reported = reported }) (eqb-true a.reported b.reported both.0)
    ∙ ap (λ wait. record b { wait = wait }) (eqb-true a.wait b.wait both.1)
