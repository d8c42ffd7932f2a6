use Rattle.std.proofs.Common.{take}
use Rattle.awk_types.specs.View.{typ_of}
use Rattle.awk_merge_sides.specs.Groups.{groups_of, AreCounted}
use Rattle.awk_merge_rows.specs.RowLevels.{row_parts}
use Rattle.awk_merge_rows.specs.Parts.{AreRowParts}
use Rattle.awk_merge_sides.specs.Sides.{sides_of}
use Rattle.awk_merge_rows.proofs.rows.row_level.Given as goal

abbrev pub invariant-loop-i : goal.invariant-loop-i
invariant-loop-i g l = record {
  counted : AreCounted l.groups;
  parts : AreRowParts (row_parts (typ_of l.t)) (take l.i (sides_of l.sides)) (groups_of l.groups);
}
