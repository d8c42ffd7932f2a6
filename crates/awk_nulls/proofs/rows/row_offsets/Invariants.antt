use Rattle.awk_nulls.proofs.RowLaws.{IsRowSoFar}
use Rattle.awk_nulls.proofs.rows.row_offsets.Given as goal

abbrev pub invariant-loop-i : goal.invariant-loop-i
invariant-loop-i g l =
    IsRowSoFar (g.P.OptionIndex.lane l.index) l.lists.starts l.lists.stops l.place l.count l.i
    l.maker
