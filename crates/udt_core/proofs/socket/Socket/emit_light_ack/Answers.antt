use Rattle.std.proofs.Common.{◌≤◌, arith}
use Rattle.udt_model.specs.Wire.{spelling}
use Rattle.udt_core.proofs.socket.Socket.emit_light_ack.Goals as goal

-- a light ACK has five words
pub emit-requires-clause-fits : goal.emit-requires-clause-fits
unfolding spelling
emit-requires-clause-fits g c = rw c.light_ack.ensures.value (omega arith)
