-- How meetings lie in memory: in the order of their IDs, and once more in the order of their addresses.
use Rattle.std.specs.Prelude.{◌≡◌, ℕ, ◌≤◌, List, length, vec_capacity, Some}
use Rattle.std.specs.Ordering.{nat_cmp}
use Rattle.udt_model.specs.declared.addresses.Addr.{Addr}
use Rattle.udt_routes.specs.Keys.{AddrKey, key_of, key_cmp}
use Rattle.udt_routes.specs.Meets.{MeetingList}
use Rattle.udt_routes.specs.Sorted.{value_at, IsRising}
use Rattle.udt_routes.specs.declared.meetings.Meetings.TheInside.{Inside}

abbrev pub meetings_in : Inside → MeetingList
meetings_in s = record { live = s.live; met = s.by_id.items }

-- an ID has an address in the one list exactly where the address has the ID in the other
pub record AreAlike (ids : List (ℕ × Addr)) (addrs : List (AddrKey × ℕ)) : Type 0 where
  pub to_addr : (id : ℕ) (a : Addr) → value_at key_cmp addrs (key_of a) ≡ Some id → value_at nat_cmp ids id ≡ Some a
  pub to_id : (id : ℕ) (a : Addr) → value_at nat_cmp ids id ≡ Some a → value_at key_cmp addrs (key_of a) ≡ Some id

-- both lists are in order, say the same, and have room
pub record IsMeetings (s : Inside) : Type 0 where
  pub ids_rise : IsRising nat_cmp s.by_id.items
  pub addrs_rise : IsRising key_cmp s.by_addr.items
  pub alike : AreAlike s.by_id.items s.by_addr.items
  pub same_len : length s.by_addr.items ≡ length s.by_id.items
  pub within : length s.by_id.items ≤ s.live
  pub ids_room : s.live ≤ vec_capacity s.by_id
  pub addrs_room : s.live ≤ vec_capacity s.by_addr
