use Rattle.std.proofs.Common.{◌≡◌, ◌*◌, ◌≤◌}
use Rattle.awk_lanes.specs.Counted.{before}
use Rattle.awk_reduce.proofs.lengths.total_of.Given as goal

abbrev pub invariant-loop-i : goal.invariant-loop-i
invariant-loop-i g l = record {
  total : l.total ≡ before (g.S.Lengths.length l.source) l.i;
  few : l.total ≤ l.i * 4294967296;
}
