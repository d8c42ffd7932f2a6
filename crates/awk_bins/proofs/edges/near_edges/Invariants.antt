use Rattle.std.proofs.Common.{map}
use Rattle.awk_bins.proofs.NearLaws.{AreMoved}
use Rattle.awk_bins.proofs.edges.near_edges.Given as goal

abbrev pub invariant-loop-i : goal.invariant-loop-i
invariant-loop-i g l =
    AreMoved g.N.Number.least g.N.Number.greatest l.edges (map g.N.Number.number l.near.items) l.i
