-- How two copies stand for what is published.
use Rattle.std.specs.Prelude.{drop}
use Rattle.left_right.specs.Sides.{view}
use Rattle.udt_routes.specs.Copies.{changes_in}
use Rattle.udt_routes.specs.Publications.{Publication}
use Rattle.udt_routes.specs.Publishing.{IsPublishing}
use Rattle.udt_routes.specs.declared.publisher.Publisher.TheInside.{Inside}

abbrev pub publication_of : Inside → Publication
publication_of s = record {
  live = s.copies.desk.shown.value.table.live;
  published = (view s.copies.desk.place).seen;
  pending = changes_in (drop s.copies.behind s.copies.log.items);
}

abbrev pub IsPublisher : Inside → Type 0
IsPublisher s = IsPublishing s.copies.desk.shown.value (view s.copies.desk.place)
