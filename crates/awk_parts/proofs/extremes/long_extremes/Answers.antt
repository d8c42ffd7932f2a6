use Rattle.std.proofs.Common.{◌≡◌, sym, subst}
use Rattle.std.specs.Prelude.{IfOk}
use Rattle.awk_lanes.specs.Made.{lane_of}
use Rattle.awk_numbers.specs.Folds.{whole_numbers}
use Rattle.awk_parts.specs.Lanes.{extreme_at}
use Rattle.awk_parts.specs.Spans.{span_count}
use Rattle.awk_parts.proofs.extremes.long_extremes.Goals as goal

pub returns-in-Some : goal.returns-in-Some
returns-in-Some g c =
    let how = c.args.how in
    let lane = c.args.lane.now in
    let p = c.args.parts.now.spans.now in
    let zs = whole_numbers c.args.parts.now.numbers.now in
    let r = c.wide_extremes_of.result in
    subst (λ ys. IfOk r (λ x. x ≡ lane_of lane.kind (span_count p) (extreme_at how ys p)))
    c.requires.numbers
    (subst (λ k. IfOk r (λ x. x ≡ lane_of k (span_count p) (extreme_at how zs p)))
    (sym c.in-Some.ensures.0) c.wide_extremes_of.ensures)
