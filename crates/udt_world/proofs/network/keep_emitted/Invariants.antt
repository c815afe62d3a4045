use Rattle.std.proofs.Common.{◌≡◌, ◌++◌, map, take, vec_len}
use Rattle.udt_model.specs.Script.{from_host}
use Rattle.udt_model.specs.Texts.{datagrams_text}
use Rattle.udt_script.specs.CodeLines.{datagram_of}
use Rattle.udt_world.proofs.network.keep_emitted.Given as goal

abbrev pub invariant-loop-i : goal.invariant-loop-i
invariant-loop-i l = record {
  datagrams : map datagram_of l.datagrams.items ≡ map datagram_of l.fn.datagrams.items ++ map (from_host l.from) (take l.i l.outs);
  text : l.out.items ≡ l.fn.out.items ++ datagrams_text (vec_len l.fn.datagrams) (map (from_host l.from) (take l.i l.outs));
}
