use Rattle.udt_routes.proofs.SortedLemmas.{puts_insert, inserted_is, rising_insert}
use Rattle.udt_routes.proofs.sorted.put.Goals as goal

-- the pair goes into its key's gap ..
pub returns-clause-next : goal.returns-clause-next
returns-clause-next g c =
    let inserted = rw c.unwrap.ensures at c.insert.ensures.items in
    rw inserted (puts_insert g.met.K.Ord.total c.args.pairs.now.items c.requires.order c.args.key c.args.value c.gap_of-at.result c.gap_of-at.ensures)

-- .. which is where the order has it ..
pub returns-clause-entries : goal.returns-clause-entries
returns-clause-entries g c =
    let inserted = rw c.unwrap.ensures at c.insert.ensures.items in
    rw inserted (inserted_is g.met.K.Ord.total c.args.pairs.now.items c.args.key c.args.value c.gap_of-at.result c.gap_of-at.ensures)

-- .. and the order stays
pub returns-clause-order : goal.returns-clause-order
returns-clause-order g c =
    let inserted = rw c.unwrap.ensures at c.insert.ensures.items in
    rw inserted (rising_insert g.met.K.Ord.total c.args.pairs.now.items c.gap_of-at.result (c.args.key, c.args.value) c.requires.order c.gap_of-at.ensures)
