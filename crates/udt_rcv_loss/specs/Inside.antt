-- How the linked ranges hold a receiver's packets.
use Rattle.udt_ranges.specs.Ranges.{Linked, IsWithin}
use Rattle.udt_ranges.specs.Merging.{IsMaximal}
use Rattle.udt_rcv_loss.specs.Absent.{MissingList}
use Rattle.udt_rcv_loss.specs.Tags.{missing_in, same_report}
use Rattle.udt_rcv_loss.specs.declared.last_report.LastReport.{LastReport}
use Rattle.udt_rcv_loss.specs.declared.list.RcvLoss.TheInside.{Inside}

-- the window, and the packets of the ranges
abbrev pub seen : Inside → MissingList
seen l = record { window = l.ranges.window; missing = missing_in l.ranges.ranges }

-- the ranges are as long as they can be, and lie within the window
pub record IsMissingList (l : Linked LastReport) : Type 0 where
  pub maximal : IsMaximal same_report l.ranges
  pub within : IsWithin l.window l.ranges

abbrev pub is_missing_list : Inside → Type 0
is_missing_list l = IsMissingList l.ranges
