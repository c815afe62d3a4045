-- How a drawer keeps the depth of its next ID.
use Rattle.std.specs.Prelude.{◌≡◌, ◌<◌, ◌≤◌}
use Rattle.udt_routes.specs.Drawers.{Draws, depth}
use Rattle.udt_routes.specs.declared.drawer.Drawer.TheInside.{Inside}

abbrev pub draws_of : Inside → Draws
draws_of d = record { first = d.first; ids = d.ids; drawers = d.drawers; place = d.place; drawn = d.drawn }

-- the depth of the next ID is kept, and is no less than the number of IDs that were given
pub record IsDrawer (d : Inside) : Type 0 where
  pub ids : d.ids ≤ d.first
  pub place : d.place < d.drawers
  pub next : d.next ≡ depth (draws_of d) d.drawn
  pub bound : d.drawn ≤ d.next
