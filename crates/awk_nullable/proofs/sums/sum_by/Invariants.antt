use Rattle.awk_nullable.specs.Halves.{IsSum}
use Rattle.awk_nullable.specs.Numbers.{leaf_number, numbers_from}
use Rattle.awk_nullable.proofs.sums.sum_by.Given as goal

abbrev pub invariant-loop-i : goal.invariant-loop-i
invariant-loop-i g l =
    IsSum l.i l.sum
    (numbers_from (leaf_number (g.P.Places.at l.x.places.now) (g.C.Cells.lane l.x.cells.now))
    l.first l.i)
