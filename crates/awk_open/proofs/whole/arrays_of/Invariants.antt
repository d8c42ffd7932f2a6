use Rattle.std.proofs.Common.{◌≡◌, take}
use Rattle.awk_open.proofs.whole.arrays_of.Given as goal

abbrev pub invariant-loop-i : goal.invariant-loop-i
invariant-loop-i l = l.arrays ≡ take l.i l.xs
