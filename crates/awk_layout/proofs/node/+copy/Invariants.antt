use Rattle.std.proofs.Common.{◌≡◌, ◌+◌, ◌-◌, ◌≤◌, length, take}
use Rattle.awk_layout.proofs.node.+copy.Given as goal

abbrev pub decreases-Node::copy : goal.decreases-Node::copy
decreases-Node::copy l = goal.size-Node::copy l

-- a node is copied before it is boxed
abbrev pub decreases-Node::boxed_copy : goal.decreases-Node::boxed_copy
decreases-Node::boxed_copy l = goal.size-Node::boxed_copy l + 1

abbrev pub decreases-Nodes::copy : goal.decreases-Nodes::copy
decreases-Nodes::copy l = goal.size-Nodes::copy l

abbrev pub invariant-Nodes::copy-loop-i : goal.invariant-Nodes::copy-loop-i
invariant-Nodes::copy-loop-i l =
    (l.i ≤ length l.self-inside.nodes.items) × (l.nodes.items ≡ take l.i l.self-inside.nodes.items)

abbrev pub decreases-Nodes::copy-loop-i : goal.decreases-Nodes::copy-loop-i
decreases-Nodes::copy-loop-i l = length l.self-inside.nodes.items - l.i
