use Rattle.awk_merge_sides.specs.Sides.{sides_of}
use Rattle.awk_merge_lists.proofs.PartedLaws.{AreParted}
use Rattle.awk_merge_lists.proofs.parts.parted.Given as goal

abbrev pub invariant-loop-i : goal.invariant-loop-i
invariant-loop-i g l = AreParted (sides_of l.sides) l.i l.made
