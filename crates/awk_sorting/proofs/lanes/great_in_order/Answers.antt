use Rattle.std.proofs.Common.{◌≡◌, sym, subst, pos, ℕ}
use Rattle.std.proofs.lemmas.Result.{IfOk-weaker}
use Rattle.awk_lanes.specs.Words.{integers, column}
use Rattle.awk_sorting.specs.Lanes.{SortsLane}
use Rattle.awk_sorting.proofs.LaneLaws.{sorted_fit, sorts_lane, nats_as_read}
use Rattle.awk_sorting.proofs.lanes.great_in_order.Goals as goal

pub lane_of_nats-requires : goal.lane_of_nats-requires
lane_of_nats-requires g c =
    let read = nats_as_read c.args.lane.now c.in_ok-numbers.numbers.items c.requires.kind
    c.in_ok-numbers.ensures.numbers in
    rw (c.kind.ensures, c.deref.ensures.value)
    (sorted_fit (λ (n : ℕ). pos n) c.args.up c.args.offsets.now c.args.n c.args.lane.now
    c.in_ok-numbers.numbers.items c.sort_parts.new.numbers.items read c.sort_parts.ensures
    c.len.ensures.fits)

pub returns : goal.returns
returns g c =
    let read = nats_as_read c.args.lane.now c.in_ok-numbers.numbers.items c.requires.kind
    c.in_ok-numbers.ensures.numbers in
    let made : SortsLane c.args.up c.args.offsets.now c.args.n c.args.lane.now
    (column c.kind.result (integers c.deref.result.now)) =
    rw (c.kind.ensures, c.deref.ensures.value)
    (sorts_lane (λ (n : ℕ). pos n) c.args.up c.args.offsets.now c.args.n c.args.lane.now
    c.in_ok-numbers.numbers.items c.sort_parts.new.numbers.items read c.sort_parts.ensures) in
    IfOk-weaker c.lane_of_nats.result
    (λ r. r ≡ column c.kind.result (integers c.deref.result.now))
    (SortsLane c.args.up c.args.offsets.now c.args.n c.args.lane.now)
    (λ r e. subst (SortsLane c.args.up c.args.offsets.now c.args.n c.args.lane.now) (sym e) made)
    c.lane_of_nats.ensures
