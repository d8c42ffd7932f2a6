use Rattle.std.proofs.Common.{map}
use Rattle.awk_cells.proofs.ExtremeLaws.{HasFirst}
use Rattle.awk_cells.proofs.short.short_in.Given as goal

abbrev pub invariant-loop-i : goal.invariant-loop-i
invariant-loop-i g l = HasFirst g.S.Side.how (map g.C.Cell.number l.groups) l.i l.best
