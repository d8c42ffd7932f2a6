use Rattle.std.proofs.Common.{◌-◌, ◌≤◌, length, take}
use Rattle.awk_columns.specs.Reached.{AreReached}
use Rattle.awk_open.proofs.order.taken_of_each.Given as goal

abbrev pub invariant-loop-a : goal.invariant-loop-a
invariant-loop-a g l = record {
  within : l.a ≤ length l.contents;
  reached : AreReached l.tags l.index 0 (take l.a l.contents) l.arrays;
}

abbrev pub decreases-loop-a : goal.decreases-loop-a
decreases-loop-a g l = length l.contents - l.a
