use Rattle.std.proofs.Common.{◌≡◌, ◌+◌, true, length, ◌∙◌, arith}
use Rattle.udt_routes.specs.Meets.{can_meet}
use Rattle.udt_routes.proofs.MeetLemmas.{can_parts, meeter_of-keyed, meeter_of-key, met_once, alike_put, meets_put}
use Rattle.udt_routes.proofs.meetings.Meetings.meet.Goals as goal

-- the socket meets none ..
pub put-requires-clause-absent : goal.put-requires-clause-absent
put-requires-clause-absent c =
    let s = c.self.inside in
    let can : can_meet s.live s.by_id.items c.args.to c.args.id ≡ true = rw (← c.self.view_is) at c.requires in
    (can_parts s.live s.by_id.items c.args.to c.args.id can).unbound

-- .. and fewer are met than may be
pub put-requires-clause-room : goal.put-requires-clause-room
put-requires-clause-room c =
    let s = c.self.inside in
    let can : can_meet s.live s.by_id.items c.args.to c.args.id ≡ true = rw (← c.self.view_is) at c.requires in
    omega (arith, (can_parts s.live s.by_id.items c.args.to c.args.id can).room, c.self.invariant.ids_room)

-- none meets the address
pub put-requires-2-clause-absent : goal.put-requires-2-clause-absent
put-requires-2-clause-absent c =
    let s = c.self.inside in
    let can : can_meet s.live s.by_id.items c.args.to c.args.id ≡ true = rw (← c.self.view_is) at c.requires in
    meeter_of-key s.by_id.items s.by_addr.items c.self.invariant.ids_rise c.self.invariant.alike c.addr_key.result c.args.to c.addr_key.ensures
    ∙ (can_parts s.live s.by_id.items c.args.to c.args.id can).free

pub put-requires-2-clause-room : goal.put-requires-2-clause-room
put-requires-2-clause-room c =
    let s = c.self.inside in
    let can : can_meet s.live s.by_id.items c.args.to c.args.id ≡ true = rw (← c.self.view_is) at c.requires in
    omega (arith, (can_parts s.live s.by_id.items c.args.to c.args.id can).room, c.self.invariant.same_len, c.self.invariant.addrs_room)

-- both lists have the meeting
pub invariant_of-self : goal.invariant_of-self
invariant_of-self c =
    let s = c.self.inside in
    let i = c.self.invariant in
    let can : can_meet s.live s.by_id.items c.args.to c.args.id ≡ true = rw (← c.self.view_is) at c.requires in
    let parts = can_parts s.live s.by_id.items c.args.to c.args.id can in
    let free = meeter_of-keyed s.by_id.items s.by_addr.items i.ids_rise i.alike c.args.to ∙ parts.free in
    let at_addr = rw c.addr_key.ensures at c.put-2.ensures.next in
    record {
      ids_rise = c.put.ensures.order;
      addrs_rise = c.put-2.ensures.order;
      alike = alike_put s.by_id.items c.put.new.pairs.items s.by_addr.items c.put-2.new.pairs.items i.alike c.args.id c.args.to c.put.ensures.next at_addr parts.unbound free;
      same_len = omega (arith, c.put.ensures.len, c.put-2.ensures.len, i.same_len);
      within = omega (arith, c.put.ensures.len, parts.room);
      ids_room = omega (arith, c.put.ensures.capacity, i.ids_room);
      addrs_room = omega (arith, c.put-2.ensures.capacity, i.addrs_room);
    }

-- so this socket meets the address now
pub returns-clause-next : goal.returns-clause-next
returns-clause-next c =
    let s = c.self.inside in
    let i = c.self.invariant in
    let can : can_meet s.live s.by_id.items c.args.to c.args.id ≡ true = rw (← c.self.view_is) at c.requires in
    let parts = can_parts s.live s.by_id.items c.args.to c.args.id can in
    let free = meeter_of-keyed s.by_id.items s.by_addr.items i.ids_rise i.alike c.args.to ∙ parts.free in
    let at_addr = rw c.addr_key.ensures at c.put-2.ensures.next in
    let alike = alike_put s.by_id.items c.put.new.pairs.items s.by_addr.items c.put-2.new.pairs.items i.alike c.args.id c.args.to c.put.ensures.next at_addr parts.unbound free in
    let len : length c.put.new.pairs.items ≡ length s.by_id.items + 1 = omega (arith, c.put.ensures.len) in
    rw (← c.self.view_is) (meets_put s.by_id.items c.put.new.pairs.items c.args.id c.args.to c.put.ensures.next len parts.unbound (met_once c.put.new.pairs.items c.put-2.new.pairs.items c.put.ensures.order alike))
