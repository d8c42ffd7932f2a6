use Rattle.std.proofs.Common.{◌+◌, ◌*◌}
use Rattle.awk_types.specs.DataType.{nodes}
use Rattle.awk_layout.specs.Typing.{array_type}
use Rattle.awk_cast.proofs.EachLaws.{AreSoFar}
use Rattle.awk_cast.proofs.Falls.{nodes_of}
use Rattle.awk_cast.proofs.casting.+cast.Given as goal

abbrev pub decreases-cast_column : goal.decreases-cast_column
decreases-cast_column g l = 2 * nodes (array_type l.x.now)

abbrev pub decreases-cast_each : goal.decreases-cast_each
decreases-cast_each g l = 2 * nodes_of l.xs.now + 1

-- the first arrays are cast, and an overflow among them is noted
abbrev pub invariant-cast_each-loop-i : goal.invariant-cast_each-loop-i
invariant-cast_each-loop-i g l = AreSoFar l.to l.xs l.i l.overflows l.nodes
