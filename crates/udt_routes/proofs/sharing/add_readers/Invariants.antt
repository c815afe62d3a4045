use Rattle.std.proofs.Common.{◌≡◌, ◌+◌, ◌++◌, replicate, vec_len, vec_capacity}
use Rattle.udt_routes.proofs.sharing.add_readers.Given as goal

-- each reader so far has seen what is published
abbrev pub invariant-loop-made : goal.invariant-loop-made
invariant-loop-made l = record {
  kept : l.publisher ≡ l.fn.publisher;
  items : l.list.items ≡ l.fn.list.items ++ replicate l._made (record { live = l.fn.publisher.live; seen = l.fn.publisher.published });
  len : vec_len l.list ≡ vec_len l.fn.list + l._made;
  capacity : vec_capacity l.list ≡ vec_capacity l.fn.list;
}
