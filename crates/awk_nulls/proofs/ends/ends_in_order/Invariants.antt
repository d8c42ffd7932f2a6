use Rattle.awk_nulls.proofs.EndCounts.{AreSoFar}
use Rattle.awk_nulls.proofs.ends.ends_in_order.Given as goal

abbrev pub invariant-loop-i : goal.invariant-loop-i
invariant-loop-i l =
    AreSoFar l.index l.lists.starts l.lists.stops l.place l.count l.i l.starts l.stops
