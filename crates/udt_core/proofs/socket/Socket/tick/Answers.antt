use Rattle.std.proofs.Common.{◌≡◌, List, ◌++◌, ◌∙◌, sym, ap, refl}
use Rattle.std.proofs.lemmas.List.{map-append}
use Rattle.udt_model.specs.Phases as phase
use Rattle.udt_model.specs.Events.{at_moment}
use Rattle.udt_model.specs.ReceiveReports.{ack_outcome, nak_report}
use Rattle.udt_model.specs.State.{State, Emission}
use Rattle.udt_model.specs.Ticks.{emitted_by_ack, nak_of, after_reports, emitted_by_reports, exp_outcome, emitted_by_exp}
use Rattle.udt_core.specs.Emitted.{datagrams_of}
use Rattle.udt_core.specs.Phases.{phase_of}
use Rattle.udt_core.specs.declared.phase.Phase.{Phase as CodePhase}
use Rattle.udt_core.proofs.TickLemmas.{exp-reports, emitted-reports, nak-reported, tick-connected, tick-connected-outs}
use Rattle.udt_core.proofs.socket.Socket.tick.Goals as goal
use Rattle.udt_core.proofs.socket.Socket.tick.Goals.{After-tick_exp}

-- the socket is connected
connected : (g : _) (c : After-tick_exp g) → (at_moment c.args.self.now c.args.now).phase ≡ phase.Connected
connected g c = ap (λ (s : State g.row.C.Denot). s.phase) (sym c.at.ensures) ∙ ap (λ (s : State g.row.C.Denot). s.phase) (sym c.self.view_is) ∙ ap (λ (p : CodePhase). phase_of p) c.in-Connected.is

-- both timers of the receiving half were looked at
reported : (g : _) (c : After-tick_exp g) → c.tick_nak.new.self ≡ after_reports (at_moment c.args.self.now c.args.now)
reported g c = rw (c.tick_nak.ensures.after, c.tick_ack.ensures.after, c.at.ensures) refl

pub returns-in-Connected-clause-after : goal.returns-in-Connected-clause-after
returns-in-Connected-clause-after g c =
    let here = (goal.at.returns-in-Connected-clause-after g c).After-tick_exp in
    rw (c.tick_exp.ensures.after, reported g here, exp-reports)
    (sym (tick-connected g.C.Control.ways c.args.self.now c.args.now (connected g here)))

-- what they emitted
emitted : (g : _) (c : After-tick_exp g)
    → c.tick_nak.new.outs ≡ datagrams_of (emitted_by_reports (at_moment c.args.self.now c.args.now))
emitted g c =
    let s = at_moment c.args.self.now c.args.now in
    let acks = emitted_by_ack s (ack_outcome s.receiving s.last s.rtt) in
    rw (c.tick_nak.ensures.outs, c.tick_ack.ensures.outs, c.tick_ack.ensures.after, c.at.ensures)
    (ap (λ (naks : List Emission). datagrams_of acks ++ datagrams_of naks) (nak-reported s)
    ∙ sym (map-append (λ (emission : Emission). emission.datagram) acks (nak_of s (nak_report s.receiving s.last s.rtt))))

pub returns-in-Connected-clause-outs : goal.returns-in-Connected-clause-outs
returns-in-Connected-clause-outs g c =
    let here = (goal.at.returns-in-Connected-clause-outs g c).After-tick_exp in
    let s = at_moment c.args.self.now c.args.now in
    rw (c.tick_exp.ensures.outs, reported g here, exp-reports, emitted-reports, emitted g here)
    (sym (map-append (λ (emission : Emission). emission.datagram) (emitted_by_reports s) (emitted_by_exp s (exp_outcome s)))
    ∙ sym (tick-connected-outs g.C.Control.ways c.args.self.now c.args.now (connected g here)))
