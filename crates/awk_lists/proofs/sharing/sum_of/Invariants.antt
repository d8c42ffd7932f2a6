use Rattle.std.specs.Prelude.{◌≡◌, ◌≤◌}
use Rattle.awk_types.specs.ItemLimit.{item_limit}
use Rattle.awk_lanes.specs.Counted.{before}
use Rattle.awk_columns.specs.Lists.{span_length}
use Rattle.awk_lists.proofs.sharing.sum_of.Given as goal

abbrev pub invariant-loop-i : goal.invariant-loop-i
invariant-loop-i l = record {
  sum : l.sum ≡ before (span_length l.starts l.stops) l.i;
  small : l.sum ≤ item_limit;
}
