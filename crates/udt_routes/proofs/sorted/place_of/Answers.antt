use Rattle.std.proofs.Common.{rules}
use Rattle.std.proofs.lemmas.List.Sorted.{answers_always}
use Rattle.udt_routes.proofs.SortedLemmas.{searched}
use Rattle.udt_routes.proofs.sorted.place_of.Goals as goal

-- the closure gives a pair's key, and the slice is the list of the pairs
pub returns : goal.returns
returns g c =
    let facts = c.binary_search_by_key.ensures in
    let by_key = facts.position (λ pair. pair.0) (answers_always _ _ _ (λ f a r f' called. search rules)) in
    rw (← c.deref.ensures.value) (searched g.met.K.Ord.total _ (rw c.deref.ensures.value c.requires) c.args.key.now _ facts.bound by_key)
