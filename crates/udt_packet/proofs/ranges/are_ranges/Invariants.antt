-- Whether there are ranges is left to the words that are left.
use Rattle.std.proofs.Common.{◌≡◌, ◌%◌, ◌-◌, ◌≤◌, ◌<◌, ◌^◌, length, drop}
use Rattle.std.specs.Option.{is_some, IfSome}
use Rattle.udt_model.specs.Wire.{words_of, ranges_from}
use Rattle.std.specs.Prelude.{None}
use Rattle.udt_packet.proofs.ranges.are_ranges.Given as goal

abbrev pub invariant-loop-place : goal.invariant-loop-place
invariant-loop-place l = record {
  whole : l.place % 4 ≡ 0;
  within : l.place ≤ length l.field;
  begun : IfSome l.begun (λ first. first < 2 ^ 31);
  same : is_some (ranges_from l.begun (words_of (drop l.place l.field))) ≡ is_some (ranges_from None (words_of l.field));
}

abbrev pub decreases-loop-place : goal.decreases-loop-place
decreases-loop-place l = length l.field - l.place
