use Rattle.std.proofs.Common.{◌≡◌}
use Rattle.udt_core.proofs.MomentLemmas.{moment-is}
use Rattle.udt_core.proofs.socket.Socket.next_moment.Goals as goal

pub returns-clause-is : goal.returns-clause-is
returns-clause-is g c =
    rw c.moment.ensures.value (moment-is g.C.Control.ways c.args.self.now c.moment.ensures.within)
