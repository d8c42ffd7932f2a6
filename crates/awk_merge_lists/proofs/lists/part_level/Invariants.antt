use Rattle.awk_merge_sides.specs.Sides.{sides_of}
use Rattle.awk_merge_lists.proofs.RegularLaws.{AreFilled}
use Rattle.awk_merge_lists.proofs.lists.part_level.Given as goal

abbrev pub invariant-loop-i : goal.invariant-loop-i
invariant-loop-i g l = AreFilled (sides_of l.sides) l.i l.items
