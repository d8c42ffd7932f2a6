use Rattle.awk_nullable.specs.Extremes.{leaf_key, number_place, IsItem}
use Rattle.awk_nullable.proofs.extremes.place_by.Given as goal

abbrev pub invariant-loop-i : goal.invariant-loop-i
invariant-loop-i g l =
    IsItem l.count l.i
    (number_place (leaf_key (g.P.Places.at l.x.places.now) (g.C.Cells.lane l.x.cells.now)
    (g.C.Cells.shift l.x.cells.now)) l.first l.i l.key)
    l.place
