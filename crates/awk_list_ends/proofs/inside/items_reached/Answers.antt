use Rattle.std.proofs.Common.{arith}
use Rattle.awk_types.specs.ItemLimit.{item_limit}
use Rattle.awk_lanes.specs.Places.{size_of}
use Rattle.awk_lanes.proofs.CountedLanes.{total_passed}
use Rattle.awk_list_ends.proofs.InsideLaws.{items_between}
use Rattle.awk_list_ends.proofs.inside.items_reached.Goals as goal

pub returns-then-items-total : goal.returns-then-items-total
returns-then-items-total c =
    let l = c.args.lists.now in
    total_passed (items_between c.args.offsets.now l.starts l.stops) item_limit
    (size_of l.starts) c.loop-i.i c.loop-i.total c.items_of_list-items.result
    (omega (arith, c.loop-i-test.true, c.len-i-end.ensures.len)) c.loop-i.invariant.total
    c.items_of_list-items.ensures (omega (arith, c.if-items-total.true, c.loop-i.invariant.small))
