use Rattle.std.proofs.Common.{◌≡◌, get_or}
use Rattle.std.specs.Prelude.{pos}
use Rattle.awk_simd.specs.Firsts.{IsFirstGreatest}
use Rattle.awk_simd.proofs.extremes.greatest_on.Given as goal

abbrev pub invariant-loop-i : goal.invariant-loop-i
invariant-loop-i l = record {
  first : IsFirstGreatest l.xs l.i l.place;
  is : l.greatest ≡ get_or l.xs l.place (pos 0);
}
