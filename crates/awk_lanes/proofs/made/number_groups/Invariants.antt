use Rattle.std.proofs.Common.{◌≡◌}
use Rattle.std.specs.Prelude.{vec_len, vec_capacity}
use Rattle.awk_lanes.specs.Words.{low_groups, AreOf}
use Rattle.awk_lanes.proofs.made.number_groups.Given as goal

abbrev pub invariant-loop-i : goal.invariant-loop-i
invariant-loop-i g l = record {
  count : vec_len l.groups ≡ l.i;
  room : vec_capacity l.groups ≡ l.n;
  items : l.groups.items ≡ low_groups g.row.W l.i (g.S.Numbers.at l.source);
  numbers : AreOf (g.S.Numbers.kind l.source) l.i (g.S.Numbers.at l.source);
}
