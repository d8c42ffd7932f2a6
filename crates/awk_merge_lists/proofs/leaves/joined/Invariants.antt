use Rattle.std.proofs.Common.{take}
use Rattle.awk_merge_sides.specs.Sides.{sides_of, merged_items}
use Rattle.awk_merge_lists.proofs.NumberLaws.{AreBytesOf}
use Rattle.awk_merge_lists.proofs.leaves.joined.Given as goal

abbrev pub invariant-loop-i : goal.invariant-loop-i
invariant-loop-i g l = AreBytesOf l.kind (merged_items (take l.i (sides_of l.sides))) l.bytes.items
