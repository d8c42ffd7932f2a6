use Rattle.awk_layout.specs.Valid.{len}
use Rattle.awk_unify.specs.View.{lift_of}
use Rattle.awk_merge_sides.specs.Groups.{groups_of, AreCounted}
use Rattle.awk_merge_rows.specs.Parts.{part_side, ArePut}
use Rattle.awk_merge_rows.proofs.rows.put_parts.Given as goal

abbrev pub invariant-loop-j : goal.invariant-loop-j
invariant-loop-j g l = record {
  counted : AreCounted l.groups;
  put : ArePut (part_side (len l.side.column) (lift_of l.side.lift) l.columns) l.j
      (groups_of l.fn.groups) (groups_of l.groups);
}
