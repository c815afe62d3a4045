use Rattle.std.proofs.Common.{◌≡◌, ◌++◌, map, take}
use Rattle.udt_model.specs.Script.{from_host}
use Rattle.udt_script.specs.CodeLines.{datagram_of}
use Rattle.udt_world.proofs.quiet.keep.Given as goal

abbrev pub invariant-loop-i : goal.invariant-loop-i
invariant-loop-i l = map datagram_of l.datagrams.items ≡ map datagram_of l.fn.datagrams.items ++ map (from_host l.from) (take l.i l.outs)
