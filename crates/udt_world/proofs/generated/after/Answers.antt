use Rattle.std.proofs.Common.{◌≡◌, ◌+◌, ◌-◌, arith}
use Rattle.std.specs.Prelude.{◌%◌}
use Rattle.udt_world.proofs.CountedLemmas.{counted_in}
use Rattle.udt_world.proofs.generated.after.Goals as goal

-- they stand in the pattern
pub returns : goal.returns
returns c =
    let width : (c.args.sent % 251 + c.args.count) - c.args.sent % 251 ≡ c.args.count = omega arith in
    rw (c.requires.value, width) (counted_in c.args.sent c.args.count 4347 (omega (arith, c.requires.few)))
