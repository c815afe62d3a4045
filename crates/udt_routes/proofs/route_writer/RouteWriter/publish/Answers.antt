use Rattle.std.proofs.Common.{◌≡◌, ◌≤◌, length, ap, ◌∙◌, arith}
use Rattle.udt_routes.proofs.Noting.{after_within, live_out, table_out}
use Rattle.udt_routes.proofs.KeepingChanges.{after_live}
use Rattle.udt_routes.proofs.route_writer.RouteWriter.publish.Goals as goal

-- all that was noted and the change are published
pub invariant_of-self-2 : goal.invariant_of-self-2
invariant_of-self-2 g c =
    let s = c.self.inside in
    let next = c.make.new.routes in
    let all = c.in_ok-append_all.ensures in
    let one = c.in_ok-append.ensures in
    let live : next.live ≡ s.own.live = ap (λ t. t.live) c.make.ensures ∙ after_live s.own c.args.change in
    let within : length next.enrolled ≤ next.live = rw c.make.ensures (after_within s.own c.args.change c.self.invariant.within) in
    let none : length c.append_all.new.noted.items ≡ 0 = ap length all.ok in
    record {
      live = live_out s.own next s.publisher c.append_all.new.publisher c.append.new.self c.publish.new.self s.noted.items c.append_all.new.noted.items c.args.change c.self.invariant.table c.make.ensures all.ok all.all all.published one.ok c.publish.ensures c.self.invariant.live;
      table = table_out s.own next s.publisher c.append_all.new.publisher c.append.new.self c.publish.new.self s.noted.items c.append_all.new.noted.items c.args.change c.self.invariant.table c.make.ensures all.ok all.all all.published one.ok c.publish.ensures;
      within = within;
      fits = omega (arith, none, within);
      room = omega (arith, live, all.capacity, c.self.invariant.room);
    }
