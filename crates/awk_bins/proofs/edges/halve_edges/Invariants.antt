use Rattle.std.proofs.Common.{◌+◌, ◌≤◌, length}
use Rattle.awk_bins.specs.Tallies.{edges_up_to}
use Rattle.awk_bins.proofs.edges.halve_edges.Given as goal

abbrev pub invariant-loop-left : goal.invariant-loop-left
invariant-loop-left g l = record {
  some : 1 ≤ l.left;
  within : l.base + l.left ≤ length l.edges.near.now;
  from : l.base ≤ edges_up_to l.edges.all.now (g.N.Number.number l.z);
  below : edges_up_to l.edges.all.now (g.N.Number.number l.z) ≤ l.base + l.left;
}

abbrev pub decreases-loop-left : goal.decreases-loop-left
decreases-loop-left g l = l.left
