use Rattle.std.proofs.Common.{◌≡◌, ◌+◌, ◌-◌, ◌<◌, ◌≤◌, min, ℕ, List, ◌++◌, length, take, drop, arith}
use Rattle.std.proofs.lemmas.List.{length-take-le}
use Rattle.udt_ring.specs.Parts.{joined}
use Rattle.udt_rcv_buffer.proofs.CopyLemmas.{part_there, joined_at_len, coming, filled_take, filled_drop, filled_more}
use Rattle.udt_rcv_buffer.proofs.copies.copy_parts.Goals as goal
use Rattle.udt_rcv_buffer.proofs.copies.copy_parts.Goals.{In-loop-filled}

-- while bytes are to come, there is a part that has them
some : (c : In-loop-filled) → c.loop-filled.part < length c.args.ring.now.list
some c = part_there c.args.ring.now.list c.loop-filled.part (omega (arith, c.loop-filled.invariant.bytes, c.loop-filled-test.true))

pub part-requires : goal.part-requires
part-requires c = some c

pub overflow_add-part : goal.overflow_add-part
overflow_add-part c = omega (arith, some ((goal.at.overflow_add-part c).In-loop-filled), c.requires.few)

pub loop-filled-preserved : goal.loop-filled-preserved
loop-filled-preserved c =
    let here = some ((goal.at.loop-filled-preserved c).In-loop-filled) in
    let i = c.loop-filled.invariant in
    let parts = c.args.ring.now.list in
    let into = c.loop-filled.into in
    let filled = c.loop-filled.filled in
    let bytes : List ℕ = c.part.result.1.now in
    let left = c.args.count - filled in
    let more : c.min-more.result ≡ min (length bytes) left = c.min-more.ensures in
    let len = joined_at_len parts c.loop-filled.part _ c.part.ensures.value in
    let later : List ℕ = take (left - min (length bytes) left) (joined (drop (c.loop-filled.part + 1) parts)) in
    let now : take left (joined (drop c.loop-filled.part parts)) ≡ take c.min-more.result bytes ++ later =
    rw more (coming parts c.loop-filled.part left _ c.part.ensures.value) in
    let piece : length (take c.min-more.result bytes) ≡ c.min-more.result = length-take-le c.min-more.result bytes (omega (arith, more)) in
    let written = rw piece at c.write.ensures in
    let within : filled ≤ length into = omega (arith, i.filled, c.requires.room, c.loop-filled.auto.into) in
    let left_is : c.args.count - (filled + c.min-more.result) ≡ left - min (length bytes) left = omega (arith, more) in
    let front = filled_take into c.write.new.memory (take c.min-more.result bytes) filled c.min-more.result within piece written in
    let goal_bytes : List ℕ = take c.args.there c.args.into.now ++ take (c.args.count - c.args.there) (joined (drop c.args.first parts)) in
    record {
      filled = omega (arith, more, i.filled);
      part = omega (arith, here);
      bytes = omega (arith, more, len, i.bytes);
      front = rw left_is (filled_more into c.write.new.memory (take c.min-more.result bytes) (take left (joined (drop c.loop-filled.part parts))) later goal_bytes filled c.min-more.result front now i.front);
      rest = filled_drop into c.write.new.memory (take c.min-more.result bytes) c.args.into.now filled c.min-more.result within piece written i.rest;
    }
