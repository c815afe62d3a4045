-- How the table of an endpoint lies in memory: sockets in the order of their IDs, with room for all.
use Rattle.std.specs.Prelude.{◌≡◌, ◌≤◌, length, vec_capacity}
use Rattle.std.specs.Ordering.{nat_cmp}
use Rattle.udt_routes.specs.Sorted.{IsRising}
use Rattle.udt_routes.specs.Tables.{Table}
use Rattle.udt_routes.specs.declared.routes.Routes.TheInside.{Inside}

module _ {R : Type 0} where
  abbrev pub table_of : Inside R → Table R
  table_of s = record {
    ids = s.adoptions.ids;
    live = s.live;
    enrolled = s.enrolled.items;
    adoptions = s.adoptions.adopted;
    listener = s.listener;
    meetings = s.meetings.met;
  }

  -- the sockets are in order, and they and the meetings have room for as many as may be
  pub record IsTable (s : Inside R) : Type 0 where
    pub rises : IsRising nat_cmp s.enrolled.items
    pub within : length s.enrolled.items ≤ s.live
    pub room : s.live ≤ vec_capacity s.enrolled
    pub meetings : s.meetings.live ≡ s.live
