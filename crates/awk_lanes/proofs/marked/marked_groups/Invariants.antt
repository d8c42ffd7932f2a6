use Rattle.std.proofs.Common.{◌≡◌}
use Rattle.std.specs.Prelude.{vec_len, vec_capacity}
use Rattle.awk_lanes.specs.Words.{low_groups, AreOf}
use Rattle.awk_lanes.specs.declared.kind.Kind.TheVariants.{I8}
use Rattle.awk_lanes.proofs.marked.marked_groups.Given as goal

abbrev pub invariant-loop-i : goal.invariant-loop-i
invariant-loop-i g l = record {
  count : vec_len l.groups ≡ l.i;
  room : vec_capacity l.groups ≡ l.n;
  items : l.groups.items ≡ low_groups g.row.W l.i (g.S.MarkedNumbers.at l.source);
  numbers : AreOf (g.S.MarkedNumbers.kind l.source) l.i (g.S.MarkedNumbers.at l.source);
  mark_count : vec_len l.marks ≡ l.i;
  mark_room : vec_capacity l.marks ≡ l.n;
  marks : l.marks.items ≡ low_groups 1 l.i (g.S.MarkedNumbers.mark l.source);
  bits : AreOf I8 l.i (g.S.MarkedNumbers.mark l.source);
}
