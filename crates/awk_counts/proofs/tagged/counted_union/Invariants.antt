use Rattle.std.proofs.Common.{◌≡◌, ◌<◌, length, get_or, ℕ}
use Rattle.awk_lanes.specs.declared.kind.Kind.TheVariants.{I64}
use Rattle.awk_lanes.specs.Places.{size_of}
use Rattle.awk_counts.specs.Counted.{first_of, tagged_at, counted_tag}
use Rattle.awk_lanes.proofs.MadeLanes.{IsSoFar}
use Rattle.awk_counts.proofs.tagged.counted_union.Given as goal

abbrev pub invariant-loop-i : goal.invariant-loop-i
invariant-loop-i g l = record {
  many : length l.counts.items ≡ l.alternatives;
  counts : (a : ℕ) → a < l.alternatives
      → get_or l.counts.items a 0 ≡ length (first_of (tagged_at l.tags l.index a) l.i);
  made : IsSoFar I64 (size_of l.tags) (counted_tag l.tags l.index) l.i l.maker;
}
