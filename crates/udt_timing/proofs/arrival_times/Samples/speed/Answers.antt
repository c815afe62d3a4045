use Rattle.std.proofs.Common.{◌∙◌, ap, filter, length, sum}
use Rattle.udt_model.specs.Timing.{median, is_near, near_median, in_a_second}
use Rattle.udt_timing.proofs.Rates.{speed_between}
use Rattle.udt_timing.proofs.arrival_times.Samples.speed.Goals as goal

-- what was counted are the samples near the median
pub returns-clause-between : goal.returns-clause-between
returns-clause-between c = λ tells.
    let now = c.args.self.now in
    let middle = c.ninth_smallest-middle.result in
    let counted = c.sum_near-kept.result in
    let same = c.in-Some.ensures.some.0 in
    let middle_is = c.ninth_smallest-middle.ensures.value ∙ ap median same in
    let kept = ap (filter (is_near middle)) same ∙ ap (λ m. filter (is_near m) now) middle_is in
    let rate =
    c.in_a_second.ensures
    ∙ ap (λ n. in_a_second n counted.1) (c.sum_near-kept.ensures.count ∙ ap length kept)
    ∙ ap (in_a_second (length (near_median now))) (c.sum_near-kept.ensures.micros ∙ ap sum kept) in
    speed_between now c.in_a_second.result tells.most rate
