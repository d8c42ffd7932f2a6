use Rattle.std.specs.Prelude.{◌≡◌, length}
use Rattle.awk_layout.specs.Typing.{array_items}
use Rattle.awk_select.proofs.PickedPlaces.{mask_first}
use Rattle.awk_select.proofs.masks.count.Given as goal

abbrev pub invariant-loop-i : goal.invariant-loop-i
invariant-loop-i g l = l.count ≡ length (mask_first (array_items l.m) l.i)
