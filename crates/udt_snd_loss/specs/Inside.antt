-- How the linked ranges hold a sender's offsets.
use Rattle.std.specs.Prelude.{◌≡◌, ℕ, ◌+◌}
use Rattle.udt_ranges.specs.Ranges.{Linked, Rises, items_of, count_of}
use Rattle.udt_ranges.specs.Merging.{IsMaximal, untagged}
use Rattle.udt_ranges.specs.Offsets.{offsets_in}
use Rattle.udt_snd_loss.specs.Lost.{LossList}
use Rattle.udt_snd_loss.specs.declared.list.SndLoss.TheInside.{Inside}

-- the ranges are as long as they can be, lie within the window, and are counted
pub record IsLossList (floor count : ℕ) (l : Linked (Unit {0})) : Type 0 where
  pub maximal : IsMaximal untagged l.ranges
  pub rises : Rises floor (floor + l.window) l.ranges
  pub counted : count ≡ count_of l.ranges

-- the window, the last drop and the offsets
abbrev pub seen : Inside → LossList
seen l = record { window = l.ranges.window; floor = l.floor; lost = offsets_in (items_of l.ranges.ranges) }

abbrev pub is_loss_list : Inside → Type 0
is_loss_list l = IsLossList l.floor l.count l.ranges
