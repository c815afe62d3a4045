-- The last report of packets, and the packets of ranges that carry one.
use Rattle.std.specs.Prelude.{ℕ, ◌+◌, ◌-◌, ◌*◌, ◌^◌, ◌==◌, ◌&&◌, Bool, min, List, map, nat_le, if◌then◌else◌}
use Rattle.std.specs.List.{flat_map}
use Rattle.udt_model.specs.Losses.{Missing, offsets_between}
use Rattle.udt_ranges.specs.declared.range.Range.{Range}
use Rattle.udt_rcv_loss.specs.declared.last_report.LastReport.{LastReport}

-- two reports are of one moment, with the same wait
abbrev pub same_report : LastReport → LastReport → Bool
same_report a b = a.reported == b.reported && a.wait == b.wait

-- packets are to be reported again at this moment, with round trips of this many microseconds
abbrev pub is_due_report : ℕ → ℕ → LastReport → Bool
is_due_report now rtt t = nat_le (t.wait * rtt) (now - t.reported)

-- the report after one. The wait grows up to 2^32 - 1
abbrev pub next_report : ℕ → LastReport → LastReport
next_report now t = record { reported = now; wait = min (t.wait + 1) (2 ^ 32 - 1) }

-- a range is to be reported again
abbrev pub is_due_range : ℕ → ℕ → Range LastReport → Bool
is_due_range now rtt r = is_due_report now rtt r.tag

-- the last report of a range once all that is due up to an offset was reported
abbrev pub new_report : ℕ → ℕ → ℕ → Range LastReport → LastReport
new_report last now rtt r = if nat_le r.last last && is_due_range now rtt r then next_report now r.tag else r.tag

-- and the range with it
abbrev pub reported_to : ℕ → ℕ → ℕ → Range LastReport → Range LastReport
reported_to last now rtt r = record r { tag = new_report last now rtt r }

-- a packet of a range
abbrev pub missing_at : Range LastReport → ℕ → Missing
missing_at r n = record { offset = n; reported = r.tag.reported; wait = r.tag.wait }

-- the packets of a range
abbrev pub missing_in_range : Range LastReport → List Missing
missing_in_range r = map (missing_at r) (offsets_between r.first r.last)

-- the packets of ranges
unfoldable pub missing_in : List (Range LastReport) → List Missing
missing_in ranges = flat_map missing_in_range ranges
