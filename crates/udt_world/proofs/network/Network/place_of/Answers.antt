use Rattle.std.proofs.Common.{◌≡◌, ℕ, ◌<◌, length, List, Some, None, Option, ◌∙◌, sym, arith}
use Rattle.std.specs.Prelude.{vec_len, IfSome}
use Rattle.std.proofs.lemmas.List.{length-map}
use Rattle.std.proofs.lemmas.Option.{slice_get_within}
use Rattle.udt_model.specs.Words.{is_word}
use Rattle.udt_world.specs.Views.{Sight, sight_of}
use Rattle.udt_world.specs.Wiring.{place_seen, sights_of}
use Rattle.udt_world.proofs.PushLemmas.{first_passes}
use Rattle.udt_world.proofs.UnderLemmas.{place_kept, seen_under}
use Rattle.udt_world.proofs.network.Network.place_of.Goals as goal

-- what is kept under the name is the place of the first socket that is seen under it
pub returns-clause-value : goal.returns-clause-value
returns-clause-value g c = λ n shows.
    c.copied.ensures ∙ (c.get.ensures.value ∙ place_kept g.C.Control.ways n c.args.self.now c.args.name.now shows c.requires)

within : {C : Type 0} (sights : List (Sight C)) (name : List ℕ) (count : ℕ) (found : Option ℕ) → length sights ≡ count
    → found ≡ place_seen sights name → IfSome found (λ place. place < count)
within sights name count None few is = tt
within sights name count (Some place) few is =
    let at = first_passes (λ (s : Sight _). is_word s.name name) sights place (sym is) in
    omega (arith, slice_get_within sights place at.0 at.1, few)

-- and there is a socket
pub returns-clause-within : goal.returns-clause-within
returns-clause-within g c =
    let sockets = c.args.self.now.sockets in
    within (sights_of c.args.self.now) c.args.name.now (vec_len sockets) c.copied.result
    (length-map sockets.items sight_of ∙ sym sockets.ok.0)
    (c.copied.ensures ∙ (c.get.ensures.value ∙ seen_under c.args.self.now c.args.name.now c.requires))
