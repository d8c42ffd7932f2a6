use Rattle.std.specs.Prelude.{◌≡◌, ◌+◌, false, take}
use Rattle.std.specs.List.{list_any}
use Rattle.awk_layout.specs.Typing.{array_items}
use Rattle.awk_lists.specs.Unflatten.{is_negative, counted_before}
use Rattle.awk_lists.proofs.cutting.add_up.Given as goal

abbrev pub invariant-loop-i : goal.invariant-loop-i
invariant-loop-i g l = record {
  none : list_any is_negative (take l.i (array_items l.counts)) ≡ false;
  left : counted_before (array_items l.counts) l.i + l.left ≡ l.n;
}
