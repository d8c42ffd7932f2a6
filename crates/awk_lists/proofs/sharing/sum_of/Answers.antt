use Rattle.std.proofs.Common.{arith}
use Rattle.awk_types.specs.ItemLimit.{item_limit}
use Rattle.awk_lanes.specs.Places.{size_of}
use Rattle.awk_lanes.proofs.CountedLanes.{total_passed}
use Rattle.awk_columns.specs.Lists.{span_length}
use Rattle.awk_lists.proofs.sharing.sum_of.Goals as goal

pub returns-then-length-sum : goal.returns-then-length-sum
returns-then-length-sum c =
    total_passed (span_length c.args.starts.now c.args.stops.now) item_limit
    (size_of c.args.starts.now) c.loop-i.i c.loop-i.sum c.length_between-length.result
    (omega (arith, c.loop-i-test.true, c.len-i-end.ensures.len)) c.loop-i.invariant.sum
    c.length_between-length.ensures.length
    (omega (arith, c.if-length-sum.true, c.loop-i.invariant.small))
