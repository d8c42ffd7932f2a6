-- The places that are left.
use Rattle.std.proofs.Common.{◌-◌, length}
use Rattle.awk_valid.proofs.numbers.+shaped_node.Given as goal

abbrev pub decreases-shaped_node : goal.decreases-shaped_node
decreases-shaped_node g l = length l.inner.now - l.place
