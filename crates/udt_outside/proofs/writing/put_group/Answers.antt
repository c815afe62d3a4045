use Rattle.std.proofs.Common.{arith}
use Rattle.udt_outside.proofs.WritingLemmas.{one_digit, two_digits, three_digits, four_digits}
use Rattle.udt_outside.proofs.writing.put_group.Goals as goal
use Rattle.udt_outside.proofs.writing.put_group.Goals.{in_default, in-16-to-65535, in-256-to-65535, in-4096-to-65535}

-- the last digits, as many as the number has
pub returns-clause-text : goal.returns-clause-text
returns-clause-text c =
    let n = c.args.group in
    let a = c.hex_digit.ensures in
    let b = c.hex_digit-2.ensures in
    let d = c.hex_digit-3.ensures in
    let e = c.hex_digit-4.ensures in
    elim c.if-group-lt16.branch [
      | in_default w ↦ rw (one_digit n (omega arith), ← e) (rw w.zeros-is at c.put.ensures)
      | in-16-to-65535 w ↦ rw (two_digits n (omega arith) (omega arith), ← d, ← e) (rw w.zeros-is at c.put.ensures)
      | in-256-to-65535 w ↦ rw (three_digits n (omega arith) (omega arith), ← b, ← d, ← e) (rw w.zeros-is at c.put.ensures)
      | in-4096-to-65535 w ↦ rw (four_digits n (omega arith) (omega arith), ← a, ← b, ← d, ← e) (rw w.zeros-is at c.put.ensures)
    ]
