use Rattle.awk_lanes.specs.declared.kind.Kind.TheVariants.{I64}
use Rattle.awk_lanes.proofs.MadeLanes.{IsSoFar}
use Rattle.awk_merge_operands.specs.Operands.{row_or_null}
use Rattle.awk_merge.proofs.joining_rows.rows_lane.Given as goal

abbrev pub invariant-loop-i : goal.invariant-loop-i
invariant-loop-i g l = IsSoFar I64 l.n (row_or_null l.index l.n l.k) l.i l.maker
