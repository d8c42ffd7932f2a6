use Rattle.std.specs.Prelude.{◌≡◌, ◌≤◌}
use Rattle.awk_lanes.specs.Counted.{before}
use Rattle.awk_columns.specs.Lists.{span_length}
use Rattle.awk_list_ends.proofs.total.are_counted_within.Given as goal

abbrev pub invariant-loop-i : goal.invariant-loop-i
invariant-loop-i l = record {
  total : l.total ≡ before (span_length l.lists.starts l.lists.stops) l.i;
  small : l.total ≤ l.limit;
}
