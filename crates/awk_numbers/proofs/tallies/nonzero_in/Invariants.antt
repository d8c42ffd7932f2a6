use Rattle.std.proofs.Common.{◌≡◌, ◌≤◌, take}
use Rattle.std.specs.List.{count_by}
use Rattle.awk_lanes.specs.Numbers.{is_nonzero}
use Rattle.awk_numbers.proofs.tallies.nonzero_in.Given as goal

abbrev pub invariant-loop-i : goal.invariant-loop-i
invariant-loop-i g l = record {
  count : l.count ≡ count_by is_nonzero (take l.i (g.R.Row.numbers l.row));
  few : l.count ≤ l.i;
}
