use Rattle.std.proofs.Common.{take}
use Rattle.awk_types.specs.View.{typs_of}
use Rattle.awk_merge_sides.specs.Sides.{sides_of, merged_items}
use Rattle.awk_merge_rows.specs.Tagged.{IsUnionSoFar}
use Rattle.awk_merge_rows.proofs.unions.union_level.Given as goal

abbrev pub invariant-loop-i : goal.invariant-loop-i
invariant-loop-i g l =
    IsUnionSoFar (typs_of l.alternatives) l.sides.total (merged_items (take l.i (sides_of l.sides)))
    l.groups l.made
