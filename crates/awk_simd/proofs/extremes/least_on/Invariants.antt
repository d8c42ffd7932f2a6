use Rattle.std.proofs.Common.{◌≡◌, get_or}
use Rattle.std.specs.Prelude.{pos}
use Rattle.awk_simd.specs.Firsts.{IsFirstLeast}
use Rattle.awk_simd.proofs.extremes.least_on.Given as goal

abbrev pub invariant-loop-i : goal.invariant-loop-i
invariant-loop-i l = record {
  first : IsFirstLeast l.xs l.i l.place;
  is : l.least ≡ get_or l.xs l.place (pos 0);
}
