use Rattle.std.proofs.Common.{◌∙◌}
use Rattle.udt_routes.proofs.PairLemmas.{adopter_of-map}
use Rattle.udt_routes.proofs.adoptions.Adoptions.adopted.Goals as goal

-- the map by pair has the adopter
pub returns : goal.returns
returns c =
    let look = adopter_of-map c.self.inside.adopters.entries c.self.inside.pairs.entries c.pair_key.result (c.args.addr, c.args.peer) c.self.invariant.alike c.pair_key.ensures in
    rw (← c.self.view_is) (c.copied.ensures ∙ c.get.ensures.value ∙ look)
