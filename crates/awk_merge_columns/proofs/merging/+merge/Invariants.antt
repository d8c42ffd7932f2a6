use Rattle.std.proofs.Common.{◌*◌, ◌+◌, take}
use Rattle.awk_types.specs.View.{typ_of}
use Rattle.awk_types.specs.declared.typ.Typ.{size-Typ}
use Rattle.awk_merge_sides.specs.Groups.{AreMerged, groups_of}
use Rattle.awk_merge_columns.specs.PartTypes.{part_types}
use Rattle.awk_merge_columns.proofs.merging.+merge.Given as goal

abbrev pub decreases-merge : goal.decreases-merge
decreases-merge g l = 4 * size-Typ l.t.now + 2

abbrev pub decreases-merge_options : goal.decreases-merge_options
decreases-merge_options g l = 4 * size-Typ l.present.now + 3

abbrev pub decreases-merge_lists : goal.decreases-merge_lists
decreases-merge_lists g l = 4 * size-Typ l.item.now + 3

abbrev pub decreases-merge_regular : goal.decreases-merge_regular
decreases-merge_regular g l = 4 * size-Typ l.item.now + 3

abbrev pub decreases-merge_rows : goal.decreases-merge_rows
decreases-merge_rows g l = 4 * size-Typ l.t.now + 1

abbrev pub decreases-merge_unions : goal.decreases-merge_unions
decreases-merge_unions g l = 4 * size-Typ l.t.now + 1

abbrev pub decreases-merge_each : goal.decreases-merge_each
decreases-merge_each g l = 4 * size-Typ l.t.now

-- the first columns are made
abbrev pub invariant-merge_each-loop-j : goal.invariant-merge_each-loop-j
invariant-merge_each-loop-j g l =
    AreMerged (take l.j (part_types (typ_of l.t))) (take l.j (groups_of l.groups)) l.nodes
