use Rattle.std.proofs.Common.{arith, refl}
use mathlib.Core.Option as opt
use Rattle.atomic_table.specs.Table.{step}
use Rattle.udt_turn.proofs.Lock.{draws_first_keeps}
use Rattle.udt_turn.proofs.turn.Turn.draw_first.Goals as goal

-- the kind of step keeps the rule
pub compare_exchange-requires : goal.compare_exchange-requires
compare_exchange-requires g c =
    let words = c.args.self.now.words in
    (c.requires.own, omega arith, draws_first_keeps g.V.Story.tale c.args.self.now.table.shared.key.value _ _ _ (step 0 0 c.args.served 0 opt.none) c.args.served _ c.requires.idle refl refl)
