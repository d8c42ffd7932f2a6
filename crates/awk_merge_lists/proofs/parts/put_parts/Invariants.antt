use Rattle.std.specs.Prelude.{◌-◌, ◌≤◌}
use Rattle.awk_merge_sides.specs.Sides.{side_of, sides_of, IsCounted}
use Rattle.awk_merge_lists.proofs.PartedLaws.{ArePartsPut}
use Rattle.awk_merge_lists.proofs.parts.put_parts.Given as goal

abbrev pub invariant-loop-start : goal.invariant-loop-start
invariant-loop-start g l = record {
  order : l.start ≤ l.n;
  counted : IsCounted l.made;
  put : ArePartsPut (side_of l.side) (sides_of l.fn.made) (sides_of l.made) l.start;
}

abbrev pub decreases-loop-start : goal.decreases-loop-start
decreases-loop-start g l = l.n - l.start
