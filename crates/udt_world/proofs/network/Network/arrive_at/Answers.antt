use denote.Enum.Declared.{tag_of}
use Rattle.std.proofs.Common.{◌≡◌, List, ℕ, ap, ◌∙◌, sym, subst, arith, inl, inr}
use Rattle.std.proofs.lemmas.Result.{on_ok_weaker}
use Rattle.udt_laws.proofs.scripts.HostReached.{host-reached}
use Rattle.udt_model.specs.declared.answers.Heard.TheVariants as heard
use Rattle.udt_model.specs.contracts.answers.Heard as Heard
use Rattle.udt_model.specs.Events.{Arrive, event}
use Rattle.udt_model.specs.Network as model
use Rattle.udt_model.specs.Routes.{handshake_in}
use Rattle.udt_model.specs.Wire.{read}
use Rattle.udt_script.specs.CodeAnswers.{reply_of}
use Rattle.udt_script.specs.CodeLines.{datagram_of}
use Rattle.udt_script.specs.declared.lines.Reply.TheVariants as code
use Rattle.udt_world.specs.Views.{HasEvent, RepliesTo, view_of}
use Rattle.udt_world.specs.Wiring.{MayHappen, sights_of}
use Rattle.udt_world.proofs.PromiseLemmas.{arrival-does, heard-request, isn-small, promised-nobody, promised-unadopted, request-does}
use Rattle.udt_world.proofs.network.Network.arrive_at.Goals as goal
use Rattle.udt_world.proofs.network.Network.arrive_at.Goals.{in-Some-Heard-Request, in_default, in_default-2, in_default-3}

-- the request has a sequence number of 31 bits
pub follow-requires-clause-isn : goal.follow-requires-clause-isn
follow-requires-clause-isn g c =
    isn-small c.deref-2.result.now c.in-Some-Heard-Request.shake (sym c.handshake.ensures ∙ c.in-Some-Heard-Request.is-0)

-- and who asked is nobody's peer at the listener's host
pub follow-requires-clause-unadopted : goal.follow-requires-clause-unadopted
follow-requires-clause-unadopted g c = λ s at.
    let network = c.args.self.now in
    let from = c.args.datagram.now.from in
    let is : c.in_ok-reply.reply ≡ code.Heard heard.Request = cc in
    promised-unadopted g.C.Control.ways (view_of network) (view_of c.event.new.self) c.args.place c.args.now from
    c.deref.result.now c.args.out.now.items c.event.new.out.items (reply_of c.in_ok-reply.reply) c.in_ok-reply.ensures.ok
    c.in_ok-reply.ensures.reply (ap reply_of is) c.requires.wired.peers s at c.in-Some-Heard-Request.shake
    (ap (λ (bytes : List ℕ). handshake_in (read bytes)) (c.deref.ensures.value ∙ sym c.deref-2.ensures.value)
    ∙ (sym c.handshake.ensures ∙ c.in-Some-Heard-Request.is-0))
    (subst (λ (bytes : List ℕ). MayHappen (sights_of network) c.args.place (Arrive from bytes)) (sym c.deref.ensures.value)
    c.requires.may)

-- the listener has no peer itself
pub follow-requires-clause-nobody : goal.follow-requires-clause-nobody
follow-requires-clause-nobody g c = λ s at.
    let network = c.args.self.now in
    let is : c.in_ok-reply.reply ≡ code.Heard heard.Request = cc in
    promised-nobody g.C.Control.ways (view_of network) (view_of c.event.new.self) c.args.place c.args.now c.args.datagram.now.from
    c.deref.result.now c.args.out.now.items c.event.new.out.items (reply_of c.in_ok-reply.reply) c.in_ok-reply.ensures.ok
    c.in_ok-reply.ensures.reply (ap reply_of is) c.requires.wired.peers s at

-- what the definitions say is done
pub returns-clause-done : goal.returns-clause-done
returns-clause-done g c =
    let network = c.args.self.now in
    let place = c.args.place in
    let datagram = datagram_of c.args.datagram.now in
    let happens = subst (λ (bytes : List ℕ). HasEvent g.C.Control.ways place (event c.args.now (Arrive datagram.from bytes))
    (view_of network) (view_of c.event.new.self) c.args.out.now.items c.event.new.out.items)
    c.deref.ensures.value c.in_ok-reply.ensures.ok in
    let replies = subst (λ (bytes : List ℕ). RepliesTo g.C.Control.ways place (event c.args.now (Arrive datagram.from bytes))
    (reply_of c.in_ok-reply.reply) (view_of network)) c.deref.ensures.value c.in_ok-reply.ensures.reply in
    let reads = c.handshake.ensures ∙ ap (λ (bytes : List ℕ). handshake_in (read bytes)) c.deref-2.ensures.value in
    let answers = replies happens.sight happens.found in
    let at = λ (n : model.Network _) (socket : model.ScriptSocket _)
    (goes : model.route g.C.Control.ways n datagram ≡ model.ToSocket place socket).
    (host-reached g.C.Control.ways n datagram place socket goes).0 in
    elim c.match-handshake.branch [
      | in-Some-Heard-Request w ↦
          let is : c.in_ok-reply.reply ≡ code.Heard heard.Request = cc in
          rw (w.result-is, w.self-is, w.out-is) (on_ok_weaker w.follow.result
          (λ follows n socket shows goes.
          request-does g.C.Control.ways n c.args.now place socket datagram (view_of network) (view_of c.event.new.self)
          c.args.out.now.items c.event.new.out.items shows (at n socket goes) happens w.in-Some-Heard-Request.shake
          (view_of w.follow.new.self) w.follow.new.out.items (c.requires.wired.peers place happens.sight happens.found)
          (sym reads ∙ w.in-Some-Heard-Request.is-0) (sym answers ∙ ap reply_of is) follows)
          w.follow.ensures.done)
      | in_default w ↦
          let other : w.in_default.field-0-1 ≡ heard.Request → ⊥ = λ is.
          let tag = ap (tag_of Heard.the_type) is in absurd (omega arith) in
          rw (w.result-is, w.self-is, w.out-is) (λ n socket shows goes.
          arrival-does g.C.Control.ways n c.args.now place socket datagram (view_of network) (view_of c.event.new.self)
          c.args.out.now.items c.event.new.out.items shows (at n socket goes) happens (inr (λ promises.
          let is = heard-request c.in_ok-reply.reply (answers ∙ promises) in
          let same : w.in_default.field-0-1 ≡ heard.Request = cc in
          other same)))
      | in_default-2 w ↦
          rw (w.result-is, w.self-is, w.out-is) (λ n socket shows goes.
          arrival-does g.C.Control.ways n c.args.now place socket datagram (view_of network) (view_of c.event.new.self)
          c.args.out.now.items c.event.new.out.items shows (at n socket goes) happens (inr (λ promises.
          w.in_default.not-Heard-1 heard.Request (heard-request c.in_ok-reply.reply (answers ∙ promises)))))
      | in_default-3 w ↦
          rw (w.result-is, w.self-is, w.out-is) (λ n socket shows goes.
          arrival-does g.C.Control.ways n c.args.now place socket datagram (view_of network) (view_of c.event.new.self)
          c.args.out.now.items c.event.new.out.items shows (at n socket goes) happens (inl (sym reads ∙ w.in_default.is-0)))
    ]
