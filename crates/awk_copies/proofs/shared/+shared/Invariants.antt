-- A node falls to its contents by their number, and the nodes so far are the first ones.
use Rattle.std.proofs.Common.{◌≡◌, ◌+◌, ◌*◌, ◌≤◌, take}
use Rattle.awk_layout.specs.Layout.{layouts_from, weight, weights}
use Rattle.awk_copies.proofs.shared.+shared.Given as goal

abbrev pub decreases-shared : goal.decreases-shared
decreases-shared g l = 2 * weight l.x.now

-- a node is made before it is boxed
abbrev pub decreases-boxed : goal.decreases-boxed
decreases-boxed g l = 2 * weight l.x.now + 1

abbrev pub decreases-shared_all : goal.decreases-shared_all
decreases-shared_all g l = 2 * weights (layouts_from l.xs.now) + 1

abbrev pub invariant-shared_all-loop-i : goal.invariant-shared_all-loop-i
invariant-shared_all-loop-i g l = record {
  made : l.made ≡ take l.i l.xs;
  cost : l.steps ≤ l.initial.steps + weights (layouts_from (take l.i l.xs));
}
