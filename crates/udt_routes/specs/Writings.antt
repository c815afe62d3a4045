-- How the writer keeps its own table.
use Rattle.std.specs.Prelude.{◌≡◌, ◌+◌, ◌≤◌, ◌++◌, length}
use Rattle.std.specs.VecDeque.{deque_capacity}
use Rattle.udt_routes.specs.Changes.{table_after}
use Rattle.udt_routes.specs.Publications.{Written}
use Rattle.udt_routes.specs.declared.route_writer.RouteWriter.TheInside.{Inside}

abbrev pub written_in : Inside → Written
written_in s = record {
  table = s.own;
  published = s.publisher.published;
  waiting = s.publisher.pending ++ s.noted.items;
}

-- its own table is what all changes make, and there is room to note the removal of each ID and of two places
pub record IsWriter (s : Inside) : Type 0 where
  pub live : s.publisher.live ≡ s.own.live
  pub table : s.own ≡ table_after s.own.live (s.publisher.published ++ (s.publisher.pending ++ s.noted.items))
  pub within : length s.own.enrolled ≤ s.own.live
  pub fits : length s.noted.items + length s.own.enrolled ≤ s.own.live + 2
  pub room : s.own.live + 2 ≤ deque_capacity s.noted
