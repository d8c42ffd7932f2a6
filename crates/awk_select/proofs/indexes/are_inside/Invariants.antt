use Rattle.std.specs.Prelude.{◌≡◌, false, take}
use Rattle.std.specs.List.{list_any}
use Rattle.awk_layout.specs.Typing.{array_items}
use Rattle.awk_select.specs.Picks.{is_outside}
use Rattle.awk_select.proofs.indexes.are_inside.Given as goal

abbrev pub invariant-loop-i : goal.invariant-loop-i
invariant-loop-i g l = list_any (is_outside l.n) (take l.i (array_items l.ix)) ≡ false
