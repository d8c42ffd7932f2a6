use Rattle.std.specs.Prelude.{FitsSigned}
use Rattle.std.specs.Int.{w64}
use Rattle.awk_nullable.specs.Extremes.{leaf_key, IsFound, IsPlaced}
use Rattle.awk_nullable.specs.Numbers.{leaf_number, numbers_from}
use Rattle.awk_nullable.proofs.extremes.placed_by.Given as goal

abbrev pub invariant-loop-i : goal.invariant-loop-i
invariant-loop-i g l =
    let f = g.P.Places.at l.x.places.now in
    let lane = g.C.Cells.lane l.x.cells.now in
    let s = g.C.Cells.shift l.x.cells.now in
    IsFound g.S.Side.how lane s l.worst (numbers_from (leaf_number f lane) l.first l.i)
    l.placed.found
    × FitsSigned w64 l.placed.found.key
    × IsPlaced g.S.Side.how l.worst l.count (leaf_key f lane s) l.first l.i l.placed
