use Rattle.std.proofs.Common.{◌≡◌, take}
use Rattle.awk_hist.proofs.edges.edge_list.Given as goal

abbrev pub invariant-loop-i : goal.invariant-loop-i
invariant-loop-i l = record { made : l.made.items ≡ take l.i l.edges }
