use Rattle.std.proofs.Common.{◌≡◌}
use Rattle.crossbeam_queue.specs.Passes.{IsPassOf, view}
use Rattle.udt_queues.proofs.line.put_again.Given as goal

abbrev pub invariant-loop : goal.invariant-loop
invariant-loop g l = IsPassOf l.line l.pass × (view l.pass ≡ view l.fn.pass) × (l.back ≡ l.fn.value)
