-- A world, as it lies in memory.
use Rattle.std.specs.Prelude.{◌≡◌, ℕ, ◌+◌, ◌≤◌, false, List, [], map, Option, Some, None, if◌then◌else◌}
use Rattle.udt_model.specs.declared.limits.TheConstants.{LONGEST_SCRIPT}
use Rattle.udt_model.specs.Rate.{Ways}
use Rattle.udt_model.specs.Script.{network_after, size_of}
use Rattle.udt_world.specs.declared.world.World.TheInside.{Inside}
use Rattle.udt_world.specs.Kept.{items_of, AreAccepted}
use Rattle.udt_world.specs.Views.{Shows, view_of}
use Rattle.udt_world.specs.Wiring.{IsWired}

module _ {C : Type 0} where
  abbrev pub lines_in : Inside C → List (List ℕ)
  lines_in world = map items_of world.lines.items

  -- the accepted lines, while there is memory
  abbrev pub lines_of : Inside C → Option (List (List ℕ))
  lines_of world = if world.lost then None else Some (lines_in world)

-- while there is memory, each line was accepted after those before it, and the sockets and datagrams are those that the
-- definitions make of the lines
pub record IsWorld {C : Type 0} (w : Ways C) (world : Inside C) : Type 0 where
  pub shown : world.lost ≡ false → Shows w (network_after w (lines_in world)) (view_of world.network)
  pub wired : world.lost ≡ false → IsWired world.network
  pub size_is : world.lost ≡ false → world.size ≡ size_of (lines_in world)
  pub bound : world.size ≤ LONGEST_SCRIPT + 1
  pub accepted : world.lost ≡ false → AreAccepted w [] (lines_in world)
