use Rattle.std.proofs.Common.{◌≡◌, ◌+◌, ◌*◌, drop}
use Rattle.awk_layout.specs.Layout.{height, heights, layouts_from}
use Rattle.awk_layout.specs.Typing.{layout_types}
use Rattle.awk_view.specs.Choice.{all_have_records}
use Rattle.awk_view.proofs.found.+has_records.Given as goal

abbrev pub decreases-has_records : goal.decreases-has_records
decreases-has_records l = 2 * height l.x.now

abbrev pub decreases-all_have_records : goal.decreases-all_have_records
decreases-all_have_records l = 2 * heights (layouts_from l.contents.now) + 1

abbrev pub invariant-all_have_records-loop-i : goal.invariant-all_have_records-loop-i
invariant-all_have_records-loop-i l =
    all_have_records (layout_types (layouts_from l.contents)) ≡ all_have_records
    (layout_types (layouts_from (drop l.i l.contents)))
