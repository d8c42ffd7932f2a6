use Rattle.awk_cells.proofs.PackedLaws.{HasBest}
use Rattle.awk_cells.proofs.short_places.first_in.Given as goal

abbrev pub invariant-loop-i : goal.invariant-loop-i
invariant-loop-i g l = HasBest l.how g.C.Cell.number l.groups l.i l.best
