use Rattle.std.proofs.Common.{◌≡◌}
use Rattle.std.specs.Prelude.{min}
use Rattle.awk_bins.specs.Tallies.{edges_up_to}
use Rattle.awk_bins.proofs.edges.count_edges.Given as goal

abbrev pub invariant-loop-i : goal.invariant-loop-i
invariant-loop-i g l = l.count ≡ min l.i (edges_up_to l.edges.all.now (g.N.Number.number l.z))
