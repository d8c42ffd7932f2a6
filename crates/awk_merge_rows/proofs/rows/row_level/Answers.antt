use Rattle.std.proofs.Common.{take}
use Rattle.awk_types.specs.View.{typ_of}
use Rattle.awk_merge_sides.specs.Groups.{groups_of}
use Rattle.awk_merge_rows.specs.RowLevels.{row_parts}
use Rattle.awk_merge_sides.specs.Sides.{side_of, sides_of}
use Rattle.awk_merge_rows.proofs.RowGroups.{no_rows, rows_next}
use Rattle.awk_merge_rows.proofs.RowSides.{row_side}
use Rattle.awk_merge_rows.proofs.rows.row_level.Goals as goal

pub loop-i-init : goal.loop-i-init
loop-i-init g c = record {
  counted = c.in_ok-groups.ensures.counted;
  parts = no_rows (row_parts (typ_of c.args.t.now)) c.count.result (groups_of c.in_ok-groups.groups)
      c.count.ensures c.in_ok-groups.ensures.groups;
}

pub put_side-requires-clause-row : goal.put_side-requires-clause-row
put_side-requires-clause-row g c = (
  row_parts (typ_of c.args.t.now),
  row_side (typ_of c.args.t.now) (sides_of c.args.sides.now)
      c.loop-i.i (side_of c.get.result.now) c.requires.row c.requires.sides c.get.ensures,
)

pub loop-i-preserved : goal.loop-i-preserved
loop-i-preserved g c = record {
  counted = c.in_ok-put_side.ensures.counted;
  parts = rows_next (row_parts (typ_of c.args.t.now)) (sides_of c.args.sides.now) c.loop-i.i
      (side_of c.get.result.now) (groups_of c.put_side.new.groups) c.get.ensures
      (c.in_ok-put_side.ensures.parts (row_parts (typ_of c.args.t.now))
      (take c.loop-i.i (sides_of c.args.sides.now))
      (row_side (typ_of c.args.t.now) (sides_of c.args.sides.now) c.loop-i.i
      (side_of c.get.result.now) c.requires.row c.requires.sides c.get.ensures)
      c.loop-i.invariant.parts);
}
