use Rattle.std.specs.Prelude.{◌≡◌, ◌≤◌}
use Rattle.awk_lanes.specs.Counted.{before}
use Rattle.awk_columns.specs.Lists.{length_of}
use Rattle.awk_jagged_places.proofs.room.items_within.Given as goal

-- the items of the lists before this one
abbrev pub invariant-loop-i : goal.invariant-loop-i
invariant-loop-i l = record {
  total : l.total ≡ before (length_of l.lists) l.i;
  within : l.total ≤ l.limit;
}
