use Rattle.std.proofs.Common.{◌-◌, arith}
use Rattle.udt_rcv_buffer.proofs.WalkedLemmas.{none_begins-one, none_begins-more}
use Rattle.udt_rcv_buffer.proofs.messages.start_of.Goals as goal

pub loop-start-init : goal.loop-start-init
loop-start-init c = record { within = omega arith; none = λ first. none_begins-one c.args.place c.args.ring.now.list _ c.part.ensures.value first }

pub loop-start-preserved : goal.loop-start-preserved
loop-start-preserved c =
    let i = c.loop-start.invariant in
    record {
      within = omega (arith, i.within);
      none = λ first. none_begins-more (c.loop-start.start - 1) c.loop-start.start c.args.place c.args.ring.now.list _ (omega (arith, c.loop-start-test.true))
          c.part-in-loop-start.ensures.value c.loop-start.begins i.none first;
    }
