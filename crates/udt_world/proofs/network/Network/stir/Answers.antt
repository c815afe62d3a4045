use Rattle.std.proofs.Common.{length, refl, ◌∙◌, arith}
use Rattle.std.proofs.lemmas.List.{map-set}
use Rattle.std.proofs.lemmas.Option.{slice_get-map, slice_get_read}
use Rattle.udt_world.specs.Views.{sight_of}
use Rattle.udt_world.proofs.network.Network.stir.Goals as goal

-- the socket left what the step says, and what it emitted was kept
pub returns-clause-moves : goal.returns-clause-moves
returns-clause-moves g c =
    let network = c.args.self.now in
    let socket = c.index_mut-socket.result.now in
    let read = slice_get_read network.sockets.items (length network.sockets.items) c.args.place socket refl (omega (arith, network.sockets.ok.0, c.requires)) c.index_mut-socket.ensures.value in
    record {
      sight = sight_of socket;
      hosts = refl;
      found = rw (slice_get-map sight_of network.sockets.items c.args.place, read) refl;
      sockets = map-set sight_of network.sockets.items c.args.place c.note.new.self ∙ rw (c.note.ensures, c.in_ok-reply.ensures.next, c.in_ok-reply.ensures.value) refl;
      datagrams = rw c.in_ok-reply.ensures.outs at c.in_ok-keep.ensures;
    }
