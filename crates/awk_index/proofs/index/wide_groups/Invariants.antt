use Rattle.std.proofs.Common.{◌≡◌, map, take, length}
use Rattle.std.specs.Prelude.{vec_len, vec_capacity}
use Rattle.awk_lanes.specs.Numbers.{number}
use Rattle.awk_lanes.specs.declared.kind.Kind.TheVariants as Kinds
use Rattle.awk_index.proofs.index.wide_groups.Given as goal

abbrev pub invariant-loop-i : goal.invariant-loop-i
invariant-loop-i g l = record {
  end : l.i-end ≡ length l.groups;
  count : vec_len l.wide ≡ l.i;
  room : vec_capacity l.wide ≡ length l.groups;
  items : map (number Kinds.I64) l.wide.items ≡ map g.C.Cell.number (take l.i l.groups);
}
