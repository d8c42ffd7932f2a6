use Rattle.std.specs.Prelude.{take}
use Rattle.awk_cartesian.specs.Sources.{AreRows}
use Rattle.awk_cartesian.proofs.rows.opened_rows.Given as goal

abbrev pub invariant-loop-j : goal.invariant-loop-j
invariant-loop-j g l = AreRows l.axis l.n (take l.j l.xs) l.rows
