use Rattle.std.specs.Prelude.{negsuc}
use Rattle.awk_lanes.specs.declared.kind.Kind.TheVariants as Kind
use Rattle.awk_lanes.proofs.MadeLanes.{IsSoFar}
use Rattle.awk_merge_rows.proofs.rows.nulls.Given as goal

abbrev pub invariant-loop-i : goal.invariant-loop-i
invariant-loop-i g l = IsSoFar Kind.I64 l.n (λ i. negsuc 0) l.i l.index
