-- What a tick does in a phase.
use Rattle.std.proofs.Common.{◌≡◌, ℕ, List, [], ◌∷◌, ◌++◌, map, refl, sym, ap, ◌∙◌}
use Rattle.udt_model.specs.Phases as phase
use Rattle.udt_model.specs.declared.sockets.ExpOutcome.{ExpOutcome}
use Rattle.udt_model.specs.declared.sockets.ExpOutcome.TheVariants as exp
use Rattle.udt_model.specs.Events.{Tick, event, at_moment, outs_of}
use Rattle.udt_model.specs.Losses.{LostRange}
use Rattle.udt_model.specs.Rate.{Ways}
use Rattle.udt_model.specs.ReceiveHalf.{Receiving}
use Rattle.udt_model.specs.ReceiveReports.{AckOutcome, IsEarly, IsKnown, EmitsAck, ack_outcome, after_ack_outcome, after_ack_timer, nak_report}
use Rattle.udt_model.specs.State.{State}
use Rattle.udt_model.specs.Step.{step}
use Rattle.udt_model.specs.Ticks.{emitted_by_ack, nak_of, after_reports, emitted_by_reports, exp_outcome, emitted_by_exp, after_exp}
use Rattle.udt_model.specs.Timing.{RoundTrip}
use Rattle.udt_core.specs.Emitted.{datagrams_of}

-- the NAK timer reports the same once an ACK is emitted
report-acked : (r : Receiving) (now : ℕ) (known : RoundTrip) (q : AckOutcome) → nak_report (after_ack_outcome r now q) now known ≡ nak_report r now known
unfolding nak_report
report-acked r now known IsEarly = refl
report-acked r now known IsKnown = refl
report-acked r now known (EmitsAck ack) = refl

module _ {C : Type 0} where
  -- and the EXP timer does the same
  pub exp-reports : (s : State C) → exp_outcome (after_reports s) ≡ exp_outcome s
  unfolding exp_outcome
  exp-reports s = refl

  pub emitted-reports : (s : State C) (q : ExpOutcome) → emitted_by_exp (after_reports s) q ≡ emitted_by_exp s q
  emitted-reports s exp.NotDue = refl
  emitted-reports s exp.Breaks = refl
  emitted-reports s exp.LosesAll = refl
  emitted-reports s exp.KeepsAlive = refl

  -- the state once the ACK timer was looked at
  abbrev pub acked_so : State C → AckOutcome → State C
  acked_so s q = record s { receiving = after_ack_outcome s.receiving s.last q }

  nak-acked : (s : State C) (q : AckOutcome) (ranges : List LostRange) → nak_of (acked_so s q) ranges ≡ nak_of s ranges
  nak-acked s q [] = refl
  nak-acked s IsEarly (range ∷ ranges) = refl
  nak-acked s IsKnown (range ∷ ranges) = refl
  nak-acked s (EmitsAck ack) (range ∷ ranges) = refl

  -- a NAK is emitted after the ACK as without it
  pub nak-reported : (s : State C)
      → nak_of (record s { receiving = after_ack_timer s.receiving s.last s.rtt })
      (nak_report (after_ack_timer s.receiving s.last s.rtt) s.last s.rtt)
      ≡ nak_of s (nak_report s.receiving s.last s.rtt)
  unfolding after_ack_timer
  nak-reported s =
      let q = ack_outcome s.receiving s.last s.rtt in
      nak-acked s q (nak_report (after_ack_outcome s.receiving s.last q) s.last s.rtt)
      ∙ ap (λ (ranges : List LostRange). nak_of s ranges) (report-acked s.receiving s.last s.rtt q)

module _ {C : Type 0} (w : Ways C) where
  -- a connected socket does what its three timers ask
  pub tick-connected : (s : State C) (now : ℕ) → (at_moment s now).phase ≡ phase.Connected
      → (step w s (event now Tick)).after ≡ after_exp w (after_reports (at_moment s now)) (exp_outcome (at_moment s now))
  unfolding step
  tick-connected s now connected = rw connected refl

  pub tick-connected-outs : (s : State C) (now : ℕ) → (at_moment s now).phase ≡ phase.Connected
      → outs_of (step w s (event now Tick)) ≡ datagrams_of (emitted_by_reports (at_moment s now) ++ emitted_by_exp (at_moment s now) (exp_outcome (at_moment s now)))
  unfolding step
  tick-connected-outs s now connected = rw connected refl
