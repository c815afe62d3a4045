use Rattle.std.proofs.Common.{◌≡◌, ◌+◌, length, map, take, vec_len, refl, ap, ◌∙◌, sym, arith, append_assoc}
use Rattle.std.proofs.lemmas.List.{append-nil, map-append, length-append, length-map}
use Rattle.udt_model.specs.State.{Datagram}
use Rattle.udt_model.specs.Script.{from_host}
use Rattle.udt_script.specs.CodeLines.{datagram_of}
use Rattle.udt_world.proofs.EventLemmas.{datagrams_text-push, no_datagrams_text, kept_more, kept_front, on_err_from}
use Rattle.udt_world.proofs.network.keep_emitted.Goals as goal

pub loop-i-init : goal.loop-i-init
loop-i-init c = record {
  datagrams = sym (append-nil (map datagram_of c.args.datagrams.now.items));
  text = rw (no_datagrams_text (vec_len c.args.datagrams.now)) (sym (append-nil c.args.out.now.items));
}

-- what was printed before stays in front
pub returns-in_err-print_datagram-clause-err : goal.returns-in_err-print_datagram-clause-err
returns-in_err-print_datagram-clause-err c =
    on_err_from c.from_residual-in_err-print_datagram.result
    (kept_front c.args.out.now.items c.loop-i.out.items c.print_datagram.new.out.items _ (vec_len c.args.out.now) (vec_len c.loop-i.out)
    (omega (arith, c.args.out.now.ok.0)) (omega (arith, c.loop-i.out.ok.0)) c.loop-i.invariant.text c.in_err-print_datagram.ensures.err)

-- one more datagram is printed and kept
pub loop-i-preserved : goal.loop-i-preserved
loop-i-preserved c =
    let i = c.loop-i.invariant in
    let emitted : Datagram = record { addr = c.get.result.0; bytes = c.get.result.1.now } in
    let more = kept_more c.args.from c.args.outs.now c.loop-i.i emitted c.get.ensures in
    let before = map (from_host c.args.from) (take c.loop-i.i c.args.outs.now) in
    let count : c.len.result ≡ vec_len c.args.datagrams.now + length before =
    omega (arith, ap length i.datagrams, length-append (map datagram_of c.args.datagrams.now.items) before, length-map c.loop-i.datagrams.items datagram_of, length-map c.args.datagrams.now.items datagram_of, c.loop-i.datagrams.ok.0, c.args.datagrams.now.ok.0, c.len.ensures) in
    record {
      datagrams = rw (c.in_ok-push.ensures.items, map-append datagram_of c.loop-i.datagrams.items, i.datagrams, more, c.in_ok-bytes.ensures.items, append_assoc) refl;
      text = c.in_ok-print_datagram.ensures.ok ∙ rw (c.in_ok-bytes.ensures.items, i.text, more, datagrams_text-push (vec_len c.args.datagrams.now) before (from_host c.args.from emitted), count, append_assoc) refl;
    }
