use Rattle.std.proofs.Common.{◌≡◌, ◌∙◌, sym, subst, ℤ}
use Rattle.std.proofs.lemmas.Result.{IfOk-weaker}
use Rattle.awk_lanes.specs.Words.{column}
use Rattle.awk_sorting.specs.Lanes.{SortsLane}
use Rattle.awk_sorting.proofs.LaneLaws.{sorted_fit, sorts_lane, same_numbers}
use Rattle.awk_sorting.proofs.lanes.small_in_order.Goals as goal

pub lane_of_numbers-requires : goal.lane_of_numbers-requires
lane_of_numbers-requires g c =
    rw (c.kind.ensures, c.deref.ensures.value, ← same_numbers c.sort_parts.new.numbers.items)
    (sorted_fit (λ (z : ℤ). z) c.args.up c.args.offsets.now c.args.n c.args.lane.now
    c.in_ok-numbers.numbers.items c.sort_parts.new.numbers.items
    (same_numbers c.in_ok-numbers.numbers.items ∙ c.in_ok-numbers.ensures) c.sort_parts.ensures
    c.len.ensures.fits)

pub returns : goal.returns
returns g c =
    let made : SortsLane c.args.up c.args.offsets.now c.args.n c.args.lane.now
    (column c.kind.result c.deref.result.now) =
    rw (c.kind.ensures, c.deref.ensures.value, ← same_numbers c.sort_parts.new.numbers.items)
    (sorts_lane (λ (z : ℤ). z) c.args.up c.args.offsets.now c.args.n c.args.lane.now
    c.in_ok-numbers.numbers.items c.sort_parts.new.numbers.items
    (same_numbers c.in_ok-numbers.numbers.items ∙ c.in_ok-numbers.ensures)
    c.sort_parts.ensures) in
    IfOk-weaker c.lane_of_numbers.result (λ r. r ≡ column c.kind.result c.deref.result.now)
    (SortsLane c.args.up c.args.offsets.now c.args.n c.args.lane.now)
    (λ r e. subst (SortsLane c.args.up c.args.offsets.now c.args.n c.args.lane.now) (sym e) made)
    c.lane_of_numbers.ensures
