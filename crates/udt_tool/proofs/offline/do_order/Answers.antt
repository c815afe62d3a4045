use Rattle.std.proofs.Common.{◌≡◌, Some, false, refl, rules}
use Rattle.udt_tool.specs.Commands.{generates, faulty, is_done}
use Rattle.udt_tool.proofs.Orders.{not_done}
use Rattle.udt_tool.proofs.Replaying.{unread_runs}
use Rattle.udt_tool.proofs.offline.do_order.Goals as goal

-- a run was generated
pub returns-in-World-clause-run : goal.returns-in-World-clause-run
returns-in-World-clause-run g c =
    rw c.in-World.is
    (unread_runs (generates c.in-World.control c.in-World.n c.in-World.turns) _ _ c.tell_world.result refl refl
    c.tell_world.ensures.printed c.tell_world.ensures.sink_failed)

-- the order is not done here
pub returns-in-Pair-clause-run : goal.returns-in-Pair-clause-run
returns-in-Pair-clause-run g c =
    let none : is_done (Some c.args.order.now) ≡ false = search (rules, c.in-Pair.is) in
    rw (not_done (Some c.args.order.now) none)
    (unread_runs faulty _ _ c.print_usage.result refl refl c.print_usage.ensures.printed c.print_usage.ensures.sink_failed)
