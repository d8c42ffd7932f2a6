use Rattle.std.proofs.Common.{◌≡◌, ◌+◌, ◌*◌, take}
use Rattle.awk_layout.specs.Layout.{height, heights, layouts_from}
use Rattle.awk_copies.proofs.moving.+moving.Given as goal

abbrev pub decreases-node_in : goal.decreases-node_in
decreases-node_in g l = 2 * height l.x.now

-- a node is copied before it is boxed
abbrev pub decreases-boxed_in : goal.decreases-boxed_in
decreases-boxed_in g l = 2 * height l.x.now + 1

abbrev pub decreases-nodes_in : goal.decreases-nodes_in
decreases-nodes_in g l = 2 * heights (layouts_from l.xs.now) + 1

abbrev pub invariant-nodes_in-loop-i : goal.invariant-nodes_in-loop-i
invariant-nodes_in-loop-i g l = l.made ≡ take l.i l.xs
