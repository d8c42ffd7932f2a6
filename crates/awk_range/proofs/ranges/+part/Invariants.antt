-- A node falls to its contents by their number.
use Rattle.std.proofs.Common.{◌+◌, ◌*◌, ◌≤◌, take}
use Rattle.awk_layout.specs.Layout.{layouts_from, weight, weights}
use Rattle.awk_range.specs.Range.{AreParts}
use Rattle.awk_range.proofs.ranges.+part.Given as goal

abbrev pub decreases-part : goal.decreases-part
decreases-part g l = 2 * weight l.x.now

abbrev pub decreases-parts : goal.decreases-parts
decreases-parts g l = 2 * weights (layouts_from l.xs.now) + 1

abbrev pub invariant-parts-loop-i : goal.invariant-parts-loop-i
invariant-parts-loop-i g l = record {
  made : AreParts (take l.i l.xs) l.lo l.hi l.parts;
  cost : l.steps ≤ l.initial.steps + 4 * weights (layouts_from (take l.i l.xs));
}
