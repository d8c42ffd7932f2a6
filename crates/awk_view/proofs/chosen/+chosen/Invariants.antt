use Rattle.std.proofs.Common.{◌≡◌, ◌+◌, ◌*◌, ◌≤◌, take, map}
use Rattle.awk_layout.specs.Layout.{height, heights, weights, layouts_from}
use Rattle.awk_view.specs.Asked.{choice_of}
use Rattle.awk_view.specs.Layouts.{layout_of_choice}
use Rattle.awk_view.proofs.chosen.+chosen.Given as goal

abbrev pub decreases-chosen : goal.decreases-chosen
decreases-chosen g l = 2 * height l.x.now

-- a node is made before it is boxed
abbrev pub decreases-boxed : goal.decreases-boxed
decreases-boxed g l = 2 * height l.x.now + 1

abbrev pub decreases-chosen_of_each : goal.decreases-chosen_of_each
decreases-chosen_of_each g l = 2 * heights (layouts_from l.contents.now) + 1

abbrev pub invariant-chosen_of_each-loop-i : goal.invariant-chosen_of_each-loop-i
invariant-chosen_of_each-loop-i g l = record {
  nodes : l.made ≡ map (layout_of_choice (choice_of l.asked)) (take l.i l.contents);
  cost : l.steps ≤ l.initial.steps + 4 * weights (layouts_from (take l.i l.contents));
}
