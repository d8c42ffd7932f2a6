use Rattle.std.proofs.Common.{◌+◌, ◌*◌, ◌≤◌, take}
use Rattle.awk_layout.specs.Layout.{heights, layouts_from}
use Rattle.awk_heights.proofs.higher.+higher.Given as goal

abbrev pub decreases-is_higher : goal.decreases-is_higher
decreases-is_higher l = 2 * l.most

abbrev pub decreases-is_some_higher : goal.decreases-is_some_higher
decreases-is_some_higher l = 2 * l.most + 1

-- the first nodes are not higher
abbrev pub invariant-is_some_higher-loop-i : goal.invariant-is_some_higher-loop-i
invariant-is_some_higher-loop-i l = heights (layouts_from (take l.i l.xs)) ≤ l.most
