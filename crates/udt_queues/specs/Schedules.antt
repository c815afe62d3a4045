-- How a schedule lies in memory: a tree of what is listed, and an unused fork for each ID that may still be.
use Rattle.std.specs.Prelude.{◌≤◌, ◌+◌, length, vec_len, vec_capacity}
use Rattle.udt_queues.specs.Listings.{IsRising}
use Rattle.udt_queues.specs.Timetable.{Timetable}
use Rattle.udt_queues.specs.declared.schedule.Schedule.TheInside.{Inside}

abbrev pub timetable_of : Inside → Timetable
timetable_of s = record { live = vec_len s.stock + length s.tree; listings = s.tree }

pub record IsSchedule (s : Inside) : Type 0 where
  pub rising : IsRising s.tree
  pub room : vec_len s.stock + length s.tree ≤ vec_capacity s.stock
