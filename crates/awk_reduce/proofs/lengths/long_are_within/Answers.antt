use Rattle.std.proofs.Common.{arith}
use Rattle.awk_types.specs.ItemLimit.{item_limit}
use Rattle.awk_lanes.proofs.CountedLanes.{total_passed}
use Rattle.awk_reduce.proofs.lengths.long_are_within.Goals as goal

pub returns-then-length-total : goal.returns-then-length-total
returns-then-length-total g c =
    total_passed (g.S.Lengths.length c.args.source.now) item_limit c.args.n c.loop-i.i
    c.loop-i.total c.length-length.result c.loop-i-test.true c.loop-i.invariant.total
    c.length-length.ensures.length (omega (arith, c.if-length-total.true, c.loop-i.invariant.few))
