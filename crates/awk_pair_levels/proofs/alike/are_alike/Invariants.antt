use Rattle.std.proofs.Common.{◌≡◌, drop}
use Rattle.std.specs.List.{list_all}
use Rattle.awk_lanes.specs.Places.{size_of}
use Rattle.awk_columns.specs.Lists.{length_of}
use Rattle.awk_pair_levels.specs.Shares.{is_alike, AreAsLong}
use Rattle.awk_pair_levels.proofs.alike.are_alike.Given as goal

abbrev pub invariant-loop-i : goal.invariant-loop-i
invariant-loop-i g l = record {
  long : AreAsLong (size_of l.lead.lists.now.starts) (drop l.i l.shares);
  alike : list_all (is_alike (length_of l.lead.lists.now) (size_of l.lead.lists.now.starts))
      (drop l.i l.shares)
      ≡ list_all (is_alike (length_of l.lead.lists.now) (size_of l.lead.lists.now.starts))
      l.shares;
}
