use Rattle.std.proofs.Common.{◌≡◌, length, map, refl, ap, ◌∙◌, sym, arith, option_map}
use Rattle.std.specs.Prelude.{slice_set}
use Rattle.std.proofs.lemmas.List.{map-set}
use Rattle.std.proofs.lemmas.Option.{same_Some, slice_get-map, slice_get_read}
use Rattle.udt_model.specs.Events.{Arrive, DidHear, event}
use Rattle.udt_script.specs.CodeLines.{datagram_of}
use Rattle.udt_world.specs.Views.{sight_of}
use Rattle.udt_world.proofs.AlikeLemmas.{ends-kept, quiet-same}
use Rattle.udt_world.proofs.network.Network.take_in.Goals as goal

-- the socket heard the datagram, and what it emitted was kept
pub returns-clause-moves : goal.returns-clause-moves
returns-clause-moves g c = λ datagram at.
    let network = c.args.self.now in
    let socket = c.index_mut-socket.result.now in
    let emitted = c.index-emitted.result.now in
    let read = slice_get_read network.sockets.items (length network.sockets.items) c.args.place socket refl (omega (arith, network.sockets.ok.0, c.requires.place)) c.index_mut-socket.ensures.value in
    let sent = slice_get_read network.datagrams.items (length network.datagrams.items) c.args.number emitted refl (omega (arith, network.datagrams.ok.0, c.requires.number)) c.index-emitted.ensures in
    let same : datagram_of emitted ≡ datagram =
    same_Some _ _ (sym (slice_get-map datagram_of network.datagrams.items c.args.number ∙ ap (option_map datagram_of) sent) ∙ at) in
    rw (← same) (record {
      sight = sight_of socket;
      hosts = refl;
      found = rw (slice_get-map sight_of network.sockets.items c.args.place, read) refl;
      sockets = map-set sight_of network.sockets.items c.args.place (record socket { socket = c.arrive.new.self })
          ∙ ap (slice_set (map sight_of network.sockets.items) c.args.place)
          (quiet-same g.C.Control.ways (sight_of socket) (event c.args.now (Arrive emitted.from emitted.bytes.items)) c.arrive.new.self
          (DidHear c.arrive.result) (rw c.deref.ensures.value at c.arrive.ensures.after) (rw c.deref.ensures.value at c.arrive.ensures.reply) refl refl);
      datagrams = rw (c.arrive.ensures.outs, c.deref.ensures.value) at c.in_ok-keep.ensures;
    })

pub returns-clause-kept : goal.returns-clause-kept
returns-clause-kept g c =
    let network = c.args.self.now in
    let socket = c.index_mut-socket.result.now in
    let read = slice_get_read network.sockets.items (length network.sockets.items) c.args.place socket refl (omega (arith, network.sockets.ok.0, c.requires.place)) c.index_mut-socket.ensures.value in
    record {
      hosts = refl;
      endpoints = refl;
      names = refl;
      count = refl;
      endpoint_of = ends-kept network.sockets.items c.args.place socket (record socket { socket = c.arrive.new.self }) read refl;
    }
