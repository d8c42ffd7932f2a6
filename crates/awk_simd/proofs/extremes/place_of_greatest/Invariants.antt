use Rattle.std.proofs.Common.{◌*◌}
use Rattle.awk_simd.specs.Firsts.{IsFirstGreatest}
use Rattle.awk_simd.proofs.extremes.place_of_greatest.Given as goal

abbrev pub invariant-loop-n : goal.invariant-loop-n
invariant-loop-n l = IsFirstGreatest l.xs (l.n * 8) l.place
