use Rattle.std.proofs.Common.{map, refl, sym, append_assoc}
use Rattle.std.proofs.lemmas.List.{append-nil, map-append}
use Rattle.udt_model.specs.State.{Datagram}
use Rattle.udt_script.specs.CodeLines.{datagram_of}
use Rattle.udt_world.proofs.EventLemmas.{kept_more}
use Rattle.udt_world.proofs.quiet.keep.Goals as goal

pub loop-i-init : goal.loop-i-init
loop-i-init c = sym (append-nil (map datagram_of c.args.datagrams.now.items))

-- one more datagram is kept
pub loop-i-preserved : goal.loop-i-preserved
loop-i-preserved c =
    let emitted : Datagram = record { addr = c.get.result.0; bytes = c.get.result.1.now } in
    let more = kept_more c.args.from c.args.outs.now c.loop-i.i emitted c.get.ensures in
    rw (c.in_ok-push.ensures.items, map-append datagram_of c.loop-i.datagrams.items, c.loop-i.invariant, more, c.in_ok-bytes.ensures.items, append_assoc) refl
