use Rattle.std.proofs.Common.{◌≡◌, ◌≤◌, ◌+◌, ◌*◌, drop, length, min}
use Rattle.awk_layout.specs.Layout.{height, heights, layouts_from}
use Rattle.awk_layout.specs.Typing.{layout_types}
use Rattle.awk_view.specs.Choice.{all_have_field}
use Rattle.awk_view.specs.Leading.{leading}
use Rattle.awk_view.proofs.found.+leading.Given as goal

abbrev pub decreases-leading_found : goal.decreases-leading_found
decreases-leading_found l = 2 * height l.x.now

abbrev pub decreases-leading_of_each : goal.decreases-leading_of_each
decreases-leading_of_each l = 2 * heights (layouts_from l.contents.now) + 1

-- the least so far, and what is left
abbrev pub invariant-leading_of_each-loop-i : goal.invariant-leading_of_each-loop-i
invariant-leading_of_each-loop-i l = record {
  within : l.least ≤ length l.names;
  least : min l.least (leading (λ n. all_have_field n
      (layout_types (layouts_from (drop l.i l.contents)))) l.names)
      ≡ leading (λ n. all_have_field n (layout_types (layouts_from l.contents))) l.names;
}
