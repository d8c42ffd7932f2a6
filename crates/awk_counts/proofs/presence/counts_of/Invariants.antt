use Rattle.std.specs.Prelude.{◌≡◌, ◌+◌, length, pos}
use Rattle.awk_lanes.specs.Places.{size_of}
use Rattle.awk_lanes.specs.declared.kind.Kind.TheVariants as Kind
use Rattle.awk_counts.specs.Counted.{first_of, present_at}
use Rattle.awk_lanes.proofs.MadeLanes.{IsSoFar}
use Rattle.awk_counts.proofs.presence.counts_of.Given as goal

abbrev pub invariant-loop-i : goal.invariant-loop-i
invariant-loop-i l = record {
  count : l.count ≡ length (first_of (present_at l.index) l.i);
  made : IsSoFar Kind.I64 (size_of l.index + 1)
      (λ j. pos (length (first_of (present_at l.index) j))) (l.i + 1) l.maker;
}
