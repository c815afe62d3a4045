-- What changes make of a table in which only IDs are enrolled.
use Rattle.std.specs.Prelude.{ℕ, is_some, List, fold, Some, if◌then◌else◌}
use Rattle.udt_routes.specs.declared.changes.Change.{Change}
use Rattle.udt_routes.specs.declared.changes.Change.TheVariants.{Enrol, Leave, SetListener}
use Rattle.udt_routes.specs.declared.changes.Change.TheVariants.{ClearListener, SetMeeting, ClearMeeting}
use Rattle.udt_routes.specs.declared.routing.Want.{Want}
use Rattle.udt_routes.specs.declared.routing.Want.TheVariants.{Id, Listener, Meeting}
use Rattle.udt_routes.specs.Meets.{can_meet}
use Rattle.udt_routes.specs.Tables.{Table, empty_table, can_enrol, listener_without}
use Rattle.udt_routes.specs.Tables.{with_enrolled, without, with_meeting, without_meeting}

-- a table of IDs alone
abbrev pub IdTable : Type 0
IdTable = Table (Unit {0})

-- the table after a change, which is as it was where the change can't be made
abbrev pub after : IdTable → Change → IdTable
after t (Enrol id) = if can_enrol t id then with_enrolled t id tt else t
after t (Leave id) = without t id
after t (SetListener id) = if is_some t.listener then t else record t { listener = Some id }
after t (ClearListener id) = record t { listener = listener_without t.listener id }
after t (SetMeeting to id) = if can_meet t.live t.meetings to id then with_meeting t to id else t
after t (ClearMeeting to id) = without_meeting t to id

-- what changes make of the table of no sockets in which this number may be enrolled
abbrev pub table_after : ℕ → List Change → IdTable
table_after live changes = fold after (empty_table 0 live) changes

-- the change that puts an ID where a want finds it
abbrev pub change_for : Want → ℕ → Change
change_for (Id wanted) id = Enrol id
change_for Listener id = SetListener id
change_for (Meeting from) id = SetMeeting from id
