-- How a reader stands for what it has seen.
use Rattle.std.specs.Prelude.{◌≡◌, true, is_some}
use Rattle.left_right.specs.Sides.{view}
use Rattle.udt_routes.specs.Publications.{Seen}
use Rattle.udt_routes.specs.Publishing.{seen_by}
use Rattle.udt_routes.specs.declared.route_reader.RouteReader.TheInside.{Inside}

abbrev pub seen_in : Inside → Seen
seen_in s = seen_by (view s.reader.place)

-- it knows how many sockets may be enrolled
abbrev pub IsReader : Inside → Type 0
IsReader s = is_some (view s.reader.place).live ≡ true
