use Rattle.std.proofs.Common.{take, drop}
use Rattle.awk_open.specs.Opened.{AreLong}
use Rattle.awk_pair.specs.Unequal.{AreAlone}
use Rattle.awk_pair.proofs.unequal.row_alone.Given as goal

abbrev pub invariant-loop-j : goal.invariant-loop-j
invariant-loop-j g l = record {
  long : AreLong l.n (drop l.j l.xs);
  made : AreAlone l.i (take l.j l.xs) l.row;
}
