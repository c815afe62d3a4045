-- What a schedule is seen as: how many IDs it has room for, and the moments under IDs, in rising order of the IDs.
use Rattle.std.specs.Prelude.{ℕ, List}
use Rattle.udt_queues.specs.declared.tree.Listing.{Listing}

pub record Timetable : Type 0 where
  pub live : ℕ
  pub listings : List Listing
