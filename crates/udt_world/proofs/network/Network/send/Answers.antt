use Rattle.std.specs.Prelude.{slice_set}
use Rattle.std.proofs.Common.{length, map, refl, ap, sym, ◌∙◌, arith}
use Rattle.std.proofs.lemmas.List.{append-nil, map-set}
use Rattle.std.proofs.lemmas.Option.{slice_get-map, slice_get_read}
use Rattle.udt_model.specs.Events.{event, Send}
use Rattle.udt_script.specs.CodeLines.{datagram_of}
use Rattle.udt_world.specs.Views.{sight_of}
use Rattle.udt_world.proofs.AlikeLemmas.{alike-wired, quiet-same, send-keeps}
use Rattle.udt_world.proofs.EventLemmas.{send_outs}
use Rattle.udt_world.proofs.network.Network.send.Goals as goal

-- the socket answered and left what the step says, and emitted nothing
pub returns-clause-value : goal.returns-clause-value
returns-clause-value g c =
    let network = c.args.self.now in
    let socket = c.index_mut.result.now in
    let read = slice_get_read network.sockets.items (length network.sockets.items) c.args.place socket refl (omega (arith, network.sockets.ok.0, c.requires.place)) c.index_mut.ensures.value in
    record {
      moves = record {
        sight = sight_of socket;
        hosts = refl;
        found = rw (slice_get-map sight_of network.sockets.items c.args.place, read) refl;
        sockets = map-set sight_of network.sockets.items c.args.place (record socket { socket = c.send.new.self })
            ∙ ap (λ (s : _). slice_set (map sight_of network.sockets.items) c.args.place s)
            (quiet-same g.C.Control.ways (sight_of socket) (event c.args.now (Send c.args.bytes.now)) c.send.new.self _ c.send.ensures.after c.send.ensures.reply refl refl);
        datagrams = rw (send_outs g.C.Control.ways socket.socket c.args.now c.args.bytes.now) (sym (append-nil (map datagram_of network.datagrams.items)));
      };
      reply_is = c.send.ensures.reply;
    }

-- and what an endpoint may know of it stayed
pub returns-clause-wired : goal.returns-clause-wired
returns-clause-wired g c =
    let network = c.args.self.now in
    let socket = c.index_mut.result.now in
    let read = slice_get_read network.sockets.items (length network.sockets.items) c.args.place socket refl (omega (arith, network.sockets.ok.0, c.requires.place)) c.index_mut.ensures.value in
    alike-wired network _ c.args.place socket c.send.new.self c.requires.wired read
    (rw c.send.ensures.after (send-keeps g.C.Control.ways socket.socket c.args.now c.args.bytes.now)) refl (map-set sight_of network.sockets.items c.args.place (record socket { socket = c.send.new.self })) refl refl refl refl
