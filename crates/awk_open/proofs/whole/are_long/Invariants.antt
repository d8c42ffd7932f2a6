use Rattle.std.proofs.Common.{take}
use Rattle.awk_open.specs.Opened.{AreLong}
use Rattle.awk_open.proofs.whole.are_long.Given as goal

abbrev pub invariant-loop-i : goal.invariant-loop-i
invariant-loop-i l = AreLong l.n (take l.i l.xs)
