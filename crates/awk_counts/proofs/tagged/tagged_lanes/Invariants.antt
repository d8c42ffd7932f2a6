use Rattle.std.proofs.Common.{◌≡◌, length}
use Rattle.awk_counts.proofs.TaggedPlaces.{AreParted}
use Rattle.awk_counts.proofs.tagged.tagged_lanes.Given as goal

abbrev pub invariant-loop-i : goal.invariant-loop-i
invariant-loop-i g l = record {
  many : length l.makers.items ≡ length l.counts;
  parted : AreParted l.tags l.index l.counts l.i l.makers.items;
}
