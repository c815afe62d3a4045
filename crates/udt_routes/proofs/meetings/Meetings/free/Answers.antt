use Rattle.std.proofs.Common.{◌≡◌, ◌+◌, Some, is_some, length, ap, sym, ◌∙◌, arith}
use Rattle.udt_routes.specs.Keys.{key_cmp}
use Rattle.udt_routes.specs.Meets.{met_by}
use Rattle.udt_routes.specs.Sorted.{value_at, one_of}
use Rattle.udt_routes.proofs.MeetLemmas.{met_once, fewer_once, taken_from, alike_take, meets_take}
use Rattle.udt_routes.proofs.meetings.Meetings.free.Goals as goal

-- nothing was met, and nothing changes
pub returns-in_default-clause-next : goal.returns-in_default-clause-next
returns-in_default-clause-next c =
    let s = c.self.inside in
    let was = rw c.take_out.ensures.value at c.take_out.ensures.len in
    let count : length c.take_out.new.pairs.items + one_of (is_some (met_by s.by_id.items c.args.id)) ≡ length s.by_id.items = omega (arith, was) in
    let once = fewer_once s.by_id.items c.take_out.new.pairs.items c.take_out.ensures.order (taken_from s.by_id.items c.take_out.new.pairs.items c.args.id c.take_out.ensures.next) (met_once s.by_id.items s.by_addr.items c.self.invariant.ids_rise c.self.invariant.alike) in
    rw (← c.self.view_is) (meets_take s.by_id.items c.take_out.new.pairs.items c.args.id c.take_out.ensures.next count once)

-- the meeting goes out of both lists
pub invariant_of-self-2 : goal.invariant_of-self-2
invariant_of-self-2 c =
    let s = c.self.inside in
    let i = c.self.invariant in
    let meets : met_by s.by_id.items c.args.id ≡ Some c.in-Some.to = sym c.in-Some.ensures.value in
    let there : value_at key_cmp s.by_addr.items c.addr_key.result ≡ Some c.args.id = ap (value_at key_cmp s.by_addr.items) c.addr_key.ensures ∙ i.alike.to_id c.args.id c.in-Some.to meets in
    let at_addr = rw c.addr_key.ensures at c.take_out-2.ensures.next in
    let len = rw (c.take_out-2.ensures.value ∙ there) at c.take_out-2.ensures.len in
    record {
      ids_rise = c.take_out.ensures.order;
      addrs_rise = c.take_out-2.ensures.order;
      alike = alike_take s.by_id.items c.take_out.new.pairs.items s.by_addr.items c.take_out-2.new.pairs.items i.alike c.args.id c.in-Some.to c.take_out.ensures.next at_addr meets;
      same_len = omega (arith, c.in-Some.ensures.len, len, i.same_len);
      within = omega (arith, c.in-Some.ensures.len, i.within);
      ids_room = omega (arith, c.take_out.ensures.capacity, i.ids_room);
      addrs_room = omega (arith, c.take_out-2.ensures.capacity, i.addrs_room);
    }

-- so the socket meets none
pub returns-clause-next : goal.returns-clause-next
returns-clause-next c =
    let s = c.self.inside in
    let was = rw c.take_out.ensures.value at c.take_out.ensures.len in
    let count : length c.take_out.new.pairs.items + one_of (is_some (met_by s.by_id.items c.args.id)) ≡ length s.by_id.items = omega (arith, was) in
    let once = fewer_once s.by_id.items c.take_out.new.pairs.items c.take_out.ensures.order (taken_from s.by_id.items c.take_out.new.pairs.items c.args.id c.take_out.ensures.next) (met_once s.by_id.items s.by_addr.items c.self.invariant.ids_rise c.self.invariant.alike) in
    rw (← c.self.view_is) (meets_take s.by_id.items c.take_out.new.pairs.items c.args.id c.take_out.ensures.next count once)
