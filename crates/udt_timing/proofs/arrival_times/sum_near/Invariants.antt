use Rattle.std.proofs.Common.{◌≡◌, ◌≤◌, ◌*◌, ◌^◌, length, take, filter, sum}
use Rattle.udt_model.specs.Timing.{is_near}
use Rattle.udt_timing.proofs.arrival_times.sum_near.Given as goal

abbrev pub invariant-loop-sample : goal.invariant-loop-sample
invariant-loop-sample l = record {
  number : l.count ≡ length (filter (is_near l.middle) (take l.sample-index l.samples));
  total : l.micros ≡ sum (filter (is_near l.middle) (take l.sample-index l.samples));
  few : l.count ≤ l.sample-index;
  fits : l.micros ≤ l.sample-index * 2 ^ 64;
}
