use Rattle.std.proofs.Common.{◌≡◌, map, take, length}
use Rattle.std.specs.Prelude.{vec_len, vec_capacity}
use Rattle.awk_lanes.specs.Numbers.{element}
use Rattle.awk_lanes.specs.Words.{integers}
use Rattle.awk_lanes.specs.declared.kind.Kind.TheVariants as Kind
use Rattle.awk_sorting.proofs.lanes.truths_of.Given as goal

abbrev pub invariant-loop-i : goal.invariant-loop-i
invariant-loop-i l = record {
  end : l.i-end ≡ length l.bytes;
  count : vec_len l.numbers ≡ l.i;
  room : vec_capacity l.numbers ≡ length l.bytes;
  items : l.numbers.items ≡ map (element Kind.Bool) (integers (take l.i l.bytes));
}
