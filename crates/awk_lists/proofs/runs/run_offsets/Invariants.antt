use Rattle.std.specs.Prelude.{◌≡◌, ◌+◌, pos}
use Rattle.awk_lanes.specs.declared.kind.Kind.TheVariants as Kind
use Rattle.awk_lanes.proofs.MadeLanes.{IsSoFar}
use Rattle.awk_lists.specs.Runs.{runs_before}
use Rattle.awk_lists.proofs.runs.run_offsets.Given as goal

abbrev pub invariant-loop-i : goal.invariant-loop-i
invariant-loop-i g l = record {
  end : l.end ≡ runs_before l.items l.offsets l.i;
  made : IsSoFar Kind.I64 (l.n + 1) (λ j. pos (runs_before l.items l.offsets j)) (l.i + 1) l.maker;
}
