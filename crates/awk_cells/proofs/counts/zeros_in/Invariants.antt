use Rattle.std.proofs.Common.{◌≡◌, ◌≤◌, ◌+◌, length, map, take}
use Rattle.std.specs.List.{count_by}
use Rattle.awk_lanes.specs.Numbers.{is_nonzero}
use Rattle.awk_cells.proofs.counts.zeros_in.Given as goal

abbrev pub invariant-loop-i : goal.invariant-loop-i
invariant-loop-i g l = record {
  count : g.N.Count.count l.zeros
      + count_by is_nonzero (take l.i (map g.C.Cell.number l.groups)) ≡ l.i;
  within : l.i ≤ length l.groups;
}
