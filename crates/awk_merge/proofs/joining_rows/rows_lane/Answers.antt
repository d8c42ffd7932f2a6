use Rattle.awk_lanes.specs.Numbers.{int_of}
use Rattle.awk_lanes.specs.declared.kind.Kind.TheVariants.{I64}
use Rattle.awk_lanes.proofs.MadeLanes.{so_far_pushed}
use Rattle.awk_merge_operands.specs.Operands.{row_or_null}
use Rattle.awk_merge.proofs.joining_rows.rows_lane.Goals as goal

pub loop-i-preserved : goal.loop-i-preserved
loop-i-preserved g c =
    so_far_pushed I64 c.args.n (row_or_null c.args.index.now c.args.n c.args.k) c.loop-i.i
    (int_of c.row_or_null-row.result) c.loop-i.maker c.push.new.self c.push.ensures
    c.row_or_null-row.ensures.number c.loop-i.invariant
