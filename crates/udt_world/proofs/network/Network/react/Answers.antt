use Rattle.std.proofs.Common.{length, refl, ◌∙◌, arith, append_assoc}
use Rattle.std.proofs.lemmas.List.{map-set, length-map}
use Rattle.std.proofs.lemmas.Option.{slice_get-map, slice_get_read}
use Rattle.udt_model.specs.Texts.{event_text}
use Rattle.udt_script.specs.CodeLines.{datagram_of}
use Rattle.udt_world.specs.Views.{sight_of}
use Rattle.udt_world.proofs.network.Network.react.Goals as goal

-- the socket answered and left what the step says, and what it emitted was kept and printed
pub returns-clause-ok : goal.returns-clause-ok
unfolding event_text
returns-clause-ok g c =
    let network = c.args.self.now in
    let socket = c.index_mut-socket.result.now in
    let read = slice_get_read network.sockets.items (length network.sockets.items) c.args.place socket refl (omega (arith, network.sockets.ok.0, c.requires)) c.index_mut-socket.ensures.value in
    let emitted = c.in_ok-reply.ensures.outs in
    let count = length-map network.datagrams.items datagram_of in
    record {
      sight = sight_of socket;
      hosts = refl;
      found = rw (slice_get-map sight_of network.sockets.items c.args.place, read) refl;
      sockets = map-set sight_of network.sockets.items c.args.place c.note.new.self ∙ rw (c.note.ensures, c.in_ok-reply.ensures.next, c.in_ok-reply.ensures.value) refl;
      datagrams = rw emitted at c.in_ok-keep_emitted.ensures.datagrams;
      text = c.in_ok-keep_emitted.ensures.text ∙ rw (c.in_ok-print_reply.ensures.ok, c.deref.ensures.value, c.note.ensures, c.in_ok-reply.ensures.text, c.in_ok-reply.ensures.value, emitted, count, network.datagrams.ok.0, append_assoc) refl;
    }
