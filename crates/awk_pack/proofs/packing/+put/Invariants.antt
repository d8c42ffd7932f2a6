use Rattle.std.proofs.Common.{drop}
use Rattle.awk_types.specs.DataType.{nodes}
use Rattle.awk_layout.specs.Typing.{array_type, array_items}
use Rattle.awk_pack.specs.Packing.{IsLeft}
use Rattle.awk_pack.proofs.packing.+put.Given as goal

abbrev pub decreases-put_lanes : goal.decreases-put_lanes
decreases-put_lanes g l = nodes (array_type l.x.now)

-- the arrays so far are put
abbrev pub invariant-loop-i : goal.invariant-loop-i
invariant-loop-i g l =
    IsLeft (array_type l.fn.x) (array_items l.fn.x) l.fn.lanes
    (drop l.i l.inner) l.lanes
