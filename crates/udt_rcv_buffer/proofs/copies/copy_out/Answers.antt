use Rattle.std.proofs.Common.{◌≡◌, ◌+◌, ◌-◌, ◌<◌, ◌≤◌, min, ℕ, List, ◌++◌, length, take, drop, refl, arith}
use Rattle.std.proofs.lemmas.List.{length-drop, length-take-le, take_rest}
use Rattle.udt_ring.specs.Parts.{joined}
use Rattle.udt_rcv_buffer.proofs.CopyLemmas.{part_there, joined_at_len, coming_skipped, filled_take, filled_drop, filled_more, later_same}
use Rattle.udt_rcv_buffer.proofs.copies.copy_out.Goals as goal
use Rattle.udt_rcv_buffer.proofs.copies.copy_out.Goals.{In-loop-skip}

-- while bytes are skipped, there is a part that has them
some : (c : In-loop-skip) → c.loop-skip.part < length c.args.ring.now.list
some c = part_there c.args.ring.now.list c.loop-skip.part (omega (arith, c.loop-skip.invariant.bytes, c.loop-skip-test.true))

pub part-requires : goal.part-requires
part-requires c = some c

pub overflow_add-part : goal.overflow_add-part
overflow_add-part c = omega (arith, some ((goal.at.overflow_add-part c).In-loop-skip), c.requires.few)

pub loop-skip-preserved : goal.loop-skip-preserved
loop-skip-preserved c =
    let here = some ((goal.at.loop-skip-preserved c).In-loop-skip) in
    let i = c.loop-skip.invariant in
    let parts = c.args.ring.now.list in
    let into = c.loop-skip.into in
    let filled = c.loop-skip.filled in
    let bytes : List ℕ = c.part.result.1.now in
    let all : take (length bytes - c.min-passed.result) (drop c.min-passed.result bytes) ≡ drop c.min-passed.result bytes = take_rest bytes c.min-passed.result in
    let unread : List ℕ = drop c.min-passed.result bytes in
    let unread_len = length-drop c.min-passed.result bytes in
    let passed : unread ≡ drop (min c.loop-skip.skip (length bytes)) bytes = rw c.min-passed.ensures refl in
    let left = c.args.count - filled in
    let more : c.min-more.result ≡ min (length unread) left = rw all at c.min-more.ensures in
    let len = joined_at_len parts c.loop-skip.part _ c.part.ensures.value in
    let later : List ℕ = take (left - min (length unread) left) (drop (c.loop-skip.skip - min c.loop-skip.skip (length bytes)) (joined (drop (c.loop-skip.part + 1) parts))) in
    let now : take left (drop c.loop-skip.skip (joined (drop c.loop-skip.part parts))) ≡ take c.min-more.result unread ++ later =
    rw more (coming_skipped parts c.loop-skip.part c.loop-skip.skip left _ unread c.part.ensures.value passed) in
    let written = rw all at c.write.ensures in
    let piece : length (take c.min-more.result unread) ≡ c.min-more.result = length-take-le c.min-more.result unread (omega (arith, more)) in
    let piece_written = rw piece at written in
    let within : filled ≤ length into = omega (arith, i.filled, c.requires.room, c.loop-skip.auto.into) in
    let left_is : c.args.count - (filled + c.min-more.result) ≡ left - min (length unread) left = omega (arith, more) in
    let front = filled_take into c.write.new.memory (take c.min-more.result unread) filled c.min-more.result within piece piece_written in
    record {
      filled = omega (arith, more, i.filled);
      part = omega (arith, here);
      bytes = omega (arith, more, len, unread_len, i.bytes, c.min-passed.ensures);
      front = rw (c.min-passed.ensures, left_is) (filled_more into c.write.new.memory (take c.min-more.result unread) (take left (drop c.loop-skip.skip (joined (drop c.loop-skip.part parts)))) later (take c.args.count (drop c.args.skip (joined (drop c.args.first parts)))) filled c.min-more.result front now i.front);
      rest = filled_drop into c.write.new.memory (take c.min-more.result unread) c.args.into.now filled c.min-more.result within piece piece_written i.rest;
    }

pub returns : goal.returns
returns c =
    let i = c.loop-skip.invariant in
    let parts = c.args.ring.now.list in
    let rest = joined (drop c.loop-skip.part parts) in
    let none : c.loop-skip.skip ≡ 0 = omega (arith, c.loop-skip-test.false) in
    let front : take c.loop-skip.filled c.loop-skip.into ++ take (c.args.count - c.loop-skip.filled) rest ≡ take c.args.count (drop c.args.skip (joined (drop c.args.first parts))) = rw none at i.front in
    rw (c.copy_parts.ensures, front, later_same c.loop-skip.into c.args.into.now c.loop-skip.filled c.args.count i.filled i.rest) refl
