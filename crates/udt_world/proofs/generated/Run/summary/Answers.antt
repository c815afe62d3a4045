use Rattle.std.proofs.Common.{length, refl, arith}
use Rattle.std.proofs.lemmas.Option.{slice_get_read}
use Rattle.udt_world.proofs.RunLemmas.{summary_is}
use Rattle.udt_world.proofs.generated.Run.summary.Goals as goal

-- the first socket is a, and is measured
pub returns : goal.returns
returns g c = λ run is.
    let network = c.args.self.now.network in
    let socket = c.index_mut.result.now in
    let found = slice_get_read network.sockets.items (length network.sockets.items) 0 socket refl
    (omega (arith, network.sockets.ok.0, c.requires.sockets)) c.index_mut.ensures.value in
    summary_is g.C.Control.ways run c.args.self.now socket 0 c.len.result c.perf.result is found c.perf.ensures.reply
    (omega (arith, c.len.ensures, network.datagrams.ok.0))
