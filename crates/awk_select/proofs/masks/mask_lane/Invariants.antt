use Rattle.std.specs.Prelude.{◌+◌}
use Rattle.awk_layout.specs.Typing.{array_items}
use Rattle.awk_select.proofs.PickedPlaces.{mask_first, IsMade}
use Rattle.awk_select.proofs.masks.mask_lane.Given as goal

-- what the items before this one give is made
abbrev pub invariant-loop-i : goal.invariant-loop-i
invariant-loop-i g l = IsMade (l.n + 1) (mask_first (array_items l.m) l.i) l.made
