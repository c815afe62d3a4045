-- What a line does to a network that is shown.
use Rattle.std.specs.Prelude.{◌≡◌, ℕ, ◌-◌, Bool, true, false, List, ◌++◌, Option, Some, None, slice_get, codes}
use Rattle.udt_model.specs.declared.routes.Routed.{Routed}
use Rattle.udt_model.specs.declared.routes.Routed.TheVariants as routing
use Rattle.udt_model.specs.Lines.{Line, PairLine, OpenLine, AcceptLine}
use Rattle.udt_model.specs.Network as model
use Rattle.udt_model.specs.Rate.{Ways}
use Rattle.udt_model.specs.Script as model_script
use Rattle.udt_model.specs.Words.{is_name}
use Rattle.udt_world.specs.declared.arrivals.Route.{Route}
use Rattle.udt_world.specs.declared.arrivals.Route.TheVariants as to
use Rattle.udt_world.specs.Views.{View, Shows}

-- the names that a line gives are such as begin with a letter
abbrev pub GivesNames : Line → Type 0
GivesNames (PairLine p) = (is_name p.a ≡ true) × (is_name p.b ≡ true)
GivesNames (OpenLine o) = is_name o.name ≡ true
GivesNames (AcceptLine name now accepted) = is_name accepted ≡ true
GivesNames other = Unit {0}

-- the route that an endpoint found, as one in the network: the place before an ID, or the word for why there is none
abbrev pub IsRoutedAs : Routed → Route → Type 0
IsRoutedAs (routing.ToSocket id) (to.To place) = place ≡ id - 1
IsRoutedAs routing.Short (to.Nowhere word) = word.now ≡ codes "short"
IsRoutedAs routing.Id (to.Nowhere word) = word.now ≡ codes "id"
IsRoutedAs routing.Shake (to.Nowhere word) = word.now ≡ codes "shake"
IsRoutedAs routing.Stale (to.Nowhere word) = word.now ≡ codes "stale"
IsRoutedAs routed route = ⊥

module _ {C : Type 0} (w : Ways C) where
  -- where the definitions say what a line does, it was done and printed; where they refuse it, nothing changed
  abbrev pub DoesLine : model.Network C → Option (model_script.Printed C) → Bool → View C → List ℕ → List ℕ → Type 0
  DoesLine network (Some printed) true view before after = Shows w printed.network view × (after ≡ before ++ printed.text)
  DoesLine network None false view before after = Shows w network view × (after ≡ before)
  DoesLine network (Some printed) false view before after = ⊥
  DoesLine network None true view before after = ⊥

  -- the datagram goes to the socket at this place
  abbrev pub GoesTo : model.Network C → model.ScriptDatagram → ℕ → Type 0
  GoesTo network datagram place =
      (socket : model.ScriptSocket C) × (slice_get network.sockets place ≡ Some socket)
      × (model.route w network datagram ≡ model.ToSocket place socket)

  -- the route of a datagram in the network
  abbrev pub IsRoute : model.Network C → model.ScriptDatagram → Route → Type 0
  IsRoute network datagram (to.To place) = GoesTo network datagram place
  IsRoute network datagram (to.Nowhere word) = model.route w network datagram ≡ model.Nowhere word.now
