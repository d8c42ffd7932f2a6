use Rattle.std.specs.Prelude.{◌≡◌, ◌+◌, ◌≤◌, pos}
use Rattle.awk_types.specs.ItemLimit.{item_limit}
use Rattle.awk_lanes.specs.declared.kind.Kind.TheVariants as Kind
use Rattle.awk_lanes.specs.Counted.{before}
use Rattle.awk_lanes.proofs.MadeLanes.{IsSoFar}
use Rattle.awk_places.proofs.offsets.tuple_offsets.Given as goal

abbrev pub invariant-loop-i : goal.invariant-loop-i
invariant-loop-i g l = record {
  total : l.total ≡ before (g.S.TupleCounts.count l.source) l.i;
  small : l.total ≤ item_limit;
  made : IsSoFar Kind.I64 (l.n + 1) (λ j. pos (before (g.S.TupleCounts.count l.source) j))
      (l.i + 1) l.maker;
}
