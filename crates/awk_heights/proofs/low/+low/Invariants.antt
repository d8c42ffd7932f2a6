use Rattle.std.proofs.Common.{◌+◌, ◌*◌, take}
use Rattle.awk_types.specs.DataType.{nodes}
use Rattle.awk_layout.specs.Typing.{array_type}
use Rattle.awk_heights.specs.Low.{AreLowNodes}
use Rattle.awk_heights.proofs.Falls.{nodes_of}
use Rattle.awk_heights.proofs.low.+low.Given as goal

abbrev pub decreases-low_node : goal.decreases-low_node
decreases-low_node g l = 2 * nodes (array_type l.x.now)

abbrev pub decreases-low_nodes : goal.decreases-low_nodes
decreases-low_nodes g l = 2 * nodes_of l.xs.now + 1

-- the first arrays are low
abbrev pub invariant-low_nodes-loop-i : goal.invariant-low_nodes-loop-i
invariant-low_nodes-loop-i g l = AreLowNodes (take l.i l.xs) l.nodes
