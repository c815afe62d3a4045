-- What is kept under a name is the place of the first socket that is seen under it.
use Rattle.std.proofs.Common.{◌≡◌, ℕ, List, ap, ◌∙◌}
use Rattle.std.specs.BTreeMap.{get_by}
use Rattle.udt_model.specs.Network as model
use Rattle.udt_model.specs.Network.{place_of}
use Rattle.udt_model.specs.Rate.{Ways}
use Rattle.udt_model.specs.Words.{is_word}
use Rattle.udt_world.specs.declared.network.Network.{Network}
use Rattle.udt_world.specs.Views.{Sight, View, sight_of_history, view_of, Shows}
use Rattle.udt_world.specs.Wiring.{IsWired, place_seen, sights_of}
use Rattle.udt_world.proofs.NameLemmas.{kept_under, name_cmp}
use Rattle.udt_world.proofs.PlaceLemmas.{position-map}

module _ {C : Type 0} where
  pub seen_under : (network : Network C) (name : List ℕ) → IsWired network
      → get_by (name_cmp name) network.names ≡ place_seen (sights_of network) name
  seen_under network name wired = kept_under name network.names.entries ∙ wired.names name

module _ {C : Type 0} (w : Ways C) where
  pub place_shown : (n : model.Network C) (view : View C) (name : List ℕ) → Shows w n view
      → place_seen view.sockets name ≡ place_of name n.sockets
  unfolding place_of
  place_shown n view name shows =
      ap (λ (s : List (Sight C)). place_seen s name) shows.sockets_are
      ∙ position-map (sight_of_history w) (λ (s : Sight C). is_word s.name name) n.sockets

  pub place_kept : (n : model.Network C) (network : Network C) (name : List ℕ) → Shows w n (view_of network) → IsWired network
      → get_by (name_cmp name) network.names ≡ place_of name n.sockets
  place_kept n network name shows wired = seen_under network name wired ∙ place_shown n (view_of network) name shows
