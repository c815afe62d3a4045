use Rattle.std.proofs.Common.{◌≡◌, ◌≤◌, ◌++◌, length}
use Rattle.std.specs.VecDeque.{deque_capacity}
use Rattle.udt_routes.proofs.route_writer.append_all.Given as goal

abbrev pub decreases-loop-change : goal.decreases-loop-change
decreases-loop-change l = length l.noted.items

-- what was taken is pending
abbrev pub invariant-loop-change : goal.invariant-loop-change
invariant-loop-change l = record {
  all : l.publisher.pending ++ l.noted.items ≡ l.fn.publisher.pending ++ l.fn.noted.items;
  live : l.publisher.live ≡ l.fn.publisher.live;
  published : l.publisher.published ≡ l.fn.publisher.published;
  fewer : length l.noted.items ≤ length l.fn.noted.items;
  capacity : deque_capacity l.noted ≡ deque_capacity l.fn.noted;
}
