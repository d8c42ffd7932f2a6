use Rattle.std.proofs.Common.{◌≡◌, length}
use Rattle.awk_lanes.proofs.MadeLanes.{IsSoFar}
use Rattle.awk_lanes.specs.Places.{size_of}
use Rattle.awk_counts.specs.Counted.{first_of, present_at, counted_at}
use Rattle.awk_counts.specs.Narrow.{HoldsCounts}
use Rattle.awk_counts.proofs.present.count_into.Given as goal

abbrev pub invariant-loop-i : goal.invariant-loop-i
invariant-loop-i g l = record {
  next : l.next ≡ length (first_of (present_at (g.P.OptionIndex.lane l.index)) l.i);
  held : HoldsCounts (size_of (g.P.OptionIndex.lane l.index)) (g.M.NumberMaker.kind l.maker);
  made : IsSoFar (g.M.NumberMaker.making l.fn.maker).kind (size_of (g.P.OptionIndex.lane l.index))
      (counted_at (g.P.OptionIndex.lane l.index)) l.i (g.M.NumberMaker.making l.maker);
}
