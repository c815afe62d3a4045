use Rattle.std.proofs.Common.{length, refl, ◌∙◌, sym, arith}
use Rattle.std.proofs.lemmas.Option.{slice_get_read}
use Rattle.std.proofs.lemmas.Result.{on_ok_weaker}
use Rattle.udt_model.specs.Lines.{no_secret}
use Rattle.udt_script.specs.CodeLines.{act_of}
use Rattle.udt_world.specs.Views.{sight_of, view_of}
use Rattle.udt_world.specs.Wiring.{sights_of}
use Rattle.udt_world.proofs.CallLemmas.{IsFree, called, other_free, listened_twice, met_taken}
use Rattle.udt_world.proofs.WiredLemmas.{sight-at}
use Rattle.udt_world.proofs.network.Network.call_at.Goals as goal
use Rattle.udt_world.proofs.network.Network.call_at.Goals.{in_default-via-in-Listen+else-has_listener, in_default-via-in-Meet+else-has_meeting, in_default-via-in_default}

-- a socket of the host listens
pub returns-in-Listen-clause-done : goal.returns-in-Listen-clause-done
returns-in-Listen-clause-done g c =
    let network = c.args.self.now in
    let socket = c.index.result.now in
    let read = slice_get_read network.sockets.items (length network.sockets.items) c.args.place socket refl
    (omega (arith, network.sockets.ok.0, c.requires.place)) c.index.ensures in
    let found = sight-at network c.args.place socket read in
    let taken = sym (c.has_listener.ensures (sight_of socket) found) ∙ c.if-has_listener.true in
    on_ok_weaker c.print_listen_twice.result
    (λ text n known shows there.
    rw c.in-Listen.is (listened_twice g.C.Control.ways n (view_of network) shows c.args.place known there (sight_of socket) found
    c.args.now c.in-Listen.field-0 no_secret c.args.out.now.items c.print_listen_twice.new.out.items taken
    (rw c.deref.ensures.value at text)))
    c.print_listen_twice.ensures.ok

-- a socket of the host meets the address, or this one meets any
pub returns-in-Meet-clause-done : goal.returns-in-Meet-clause-done
returns-in-Meet-clause-done g c =
    let network = c.args.self.now in
    let socket = c.index-in-Meet.result.now in
    let read = slice_get_read network.sockets.items (length network.sockets.items) c.args.place socket refl
    (omega (arith, network.sockets.ok.0, c.requires.place)) c.index-in-Meet.ensures in
    let found = sight-at network c.args.place socket read in
    let taken = sym (c.has_meeting.ensures (sight_of socket) found) ∙ c.if-has_meeting.true in
    on_ok_weaker c.print_meet_taken.result
    (λ text n known shows there.
    rw c.in-Meet.is (met_taken g.C.Control.ways n (view_of network) shows c.args.place known there (sight_of socket) found
    c.args.now c.in-Meet.to c.args.out.now.items c.print_meet_taken.new.out.items taken
    (rw c.deref-in-Meet.ensures.value at text)))
    c.print_meet_taken.ensures.ok

-- the socket has the call
pub returns-in_ok-event-in_default-clause-done : goal.returns-in_ok-event-in_default-clause-done
returns-in_ok-event-in_default-clause-done g c = λ n known shows there.
    let network = c.args.self.now in
    let happens = c.in_ok-event-in_default.ensures.ok in
    let free : IsFree (sights_of network) happens.sight (act_of c.args.call.now) = elim c.in_default.branch [
      | in_default-via-in-Listen+else-has_listener w ↦
          rw w.in-Listen.is (sym (w.has_listener.ensures happens.sight happens.found) ∙ w.if-has_listener.false)
      | in_default-via-in-Meet+else-has_meeting w ↦
          rw w.in-Meet.is (sym (w.has_meeting.ensures happens.sight happens.found) ∙ w.if-has_meeting.false)
      | in_default-via-in_default w ↦
          other_free (sights_of network) happens.sight c.args.call.now w.in_default.not-Listen w.in_default.not-Meet
    ] in
    called g.C.Control.ways n (view_of network) shows c.args.place known there happens.sight happens.found
    c.args.now (act_of c.args.call.now) (view_of c.event.new.self) c.args.out.now.items c.event.new.out.items free happens
