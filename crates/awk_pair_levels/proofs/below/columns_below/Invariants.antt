use Rattle.std.proofs.Common.{take, drop}
use Rattle.awk_lanes.specs.Places.{size_of}
use Rattle.awk_columns.specs.Lists.{length_of}
use Rattle.awk_pair_levels.specs.Shares.{AreAsLong, AreEven, AreNext, AreRepeats}
use Rattle.awk_pair_levels.proofs.below.columns_below.Given as goal

abbrev pub invariant-loop-i : goal.invariant-loop-i
invariant-loop-i g l = record {
  long : AreAsLong (size_of l.lead.starts) (drop l.i l.shares);
  even : AreEven (length_of l.lead) (size_of l.lead.starts) (drop l.i l.shares);
  repeats : AreRepeats (length_of l.lead) (size_of l.lead.starts) l.level.places
      (drop l.i l.shares);
  made : AreNext (length_of l.lead) (size_of l.lead.starts) (take l.i l.shares) l.columns;
}
