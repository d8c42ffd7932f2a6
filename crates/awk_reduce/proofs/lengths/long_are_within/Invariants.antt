use Rattle.std.proofs.Common.{◌≡◌, ◌≤◌}
use Rattle.awk_lanes.specs.Counted.{before}
use Rattle.awk_reduce.proofs.lengths.long_are_within.Given as goal

abbrev pub invariant-loop-i : goal.invariant-loop-i
invariant-loop-i g l = record {
  total : l.total ≡ before (g.S.Lengths.length l.source) l.i;
  few : l.total ≤ 1073741824;
}
