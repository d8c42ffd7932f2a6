use Rattle.std.proofs.Common.{take}
use Rattle.std.specs.List.{AllByRecursion}
use Rattle.awk_pair_operands.specs.First.{all_data, AreColumns}
use Rattle.awk_pair_operands.specs.Typed.{IsTyped}
use Rattle.awk_pair_operands.proofs.first.columns_of.Given as goal

abbrev pub invariant-loop-i : goal.invariant-loop-i
invariant-loop-i g l = record {
  columns : AreColumns (all_data (take l.i l.xs)) l.columns;
  typed : AllByRecursion IsTyped (all_data (take l.i l.xs));
}
