use Rattle.std.proofs.Common.{ℕ, refl, arith}
use Rattle.std.specs.Ordering.{nat_cmp}
use Rattle.udt_model.specs.declared.addresses.Addr.{Addr}
use Rattle.udt_routes.specs.Keys.{key_cmp}
use Rattle.udt_routes.proofs.MeetLemmas.{none_alike}
use Rattle.udt_routes.proofs.SortedLemmas.{rising_none}
use Rattle.udt_routes.proofs.meetings.Meetings.new.Goals as goal

-- both lists are empty
pub invariant_of-result : goal.invariant_of-result
invariant_of-result c =
    let ids = c.in_ok-by_id.ensures in
    let addrs = c.in_ok-by_addr.ensures in
    record {
      ids_rise = rw ids.items (rising_none Addr nat_cmp);
      addrs_rise = rw addrs.items (rising_none ℕ key_cmp);
      alike = rw (ids.items, addrs.items) none_alike;
      same_len = rw (ids.items, addrs.items) refl;
      within = rw ids.items (omega arith);
      ids_room = omega (arith, ids.capacity);
      addrs_room = omega (arith, addrs.capacity);
    }
