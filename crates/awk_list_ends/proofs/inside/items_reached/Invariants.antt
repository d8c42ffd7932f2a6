use Rattle.std.specs.Prelude.{◌≡◌, ◌≤◌}
use Rattle.awk_types.specs.ItemLimit.{item_limit}
use Rattle.awk_lanes.specs.Counted.{before}
use Rattle.awk_list_ends.proofs.InsideLaws.{items_between}
use Rattle.awk_list_ends.proofs.inside.items_reached.Given as goal

abbrev pub invariant-loop-i : goal.invariant-loop-i
invariant-loop-i l = record {
  total : l.total ≡ before (items_between l.offsets l.lists.starts l.lists.stops) l.i;
  small : l.total ≤ item_limit;
}
