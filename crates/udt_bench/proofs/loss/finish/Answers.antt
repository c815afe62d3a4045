use Rattle.std.proofs.Common.{length, ap, arith}
use Rattle.udt_rcv_loss.proofs.MissingLemmas.{length-without_first}
use Rattle.udt_bench.proofs.loss.finish.Goals as goal

-- the first packet leaves
pub finish-smaller : goal.finish-smaller
finish-smaller c =
    let n = c.in-Some.first in
    let ms = c.finish.rcv.missing in
    omega (arith, length-without_first n ms c.in-Some.ensures.value, ap (λ r. length r.missing) c.remove.ensures.next)
