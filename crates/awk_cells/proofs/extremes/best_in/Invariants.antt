use Rattle.awk_cells.proofs.ExtremeLaws.{IsSoFar}
use Rattle.awk_cells.proofs.extremes.best_in.Given as goal

abbrev pub invariant-loop-i : goal.invariant-loop-i
invariant-loop-i g l = IsSoFar g.S.Side.how g.C.Cell.number l.groups l.i l.best
