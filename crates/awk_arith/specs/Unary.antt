-- Operations on one datum, leaf by leaf.
use Rattle.std.specs.Prelude.{[], ◌∷◌, Result, Err, None, if◌then◌else◌}
use Rattle.awk_types.specs.Datum.{Datum, datum_type}
use Rattle.awk_types.specs.Value.{Value}
use Rattle.awk_types.specs.declared.fault.Fault.{Fault}
use Rattle.awk_types.specs.declared.fault.Fault.TheVariants.{WrongType}
use Rattle.awk_types.specs.declared.primitive.Primitive.{Primitive}
use Rattle.awk_columns.specs.Columns.{part_at}
use Rattle.awk_leaves.specs.Table.{unary_judged}
use Rattle.awk_leaves.specs.Values.{unary_at}
use Rattle.awk_leaves.specs.declared.operation.Unary.{Unary}
use Rattle.awk_pair_operands.specs.Pairs.{has_wrong_end}
use Rattle.awk_ends.specs.Operands.{leaf_in, in_primitive}
use Rattle.awk_arith.specs.AtLeaves.{at_leaves}

abbrev pub unary_row : Unary → Primitive → Value → Result Value Fault
unary_row op p = λ v. unary_at op p (part_at 0 v)

-- where each end is a leaf
abbrev pub judged_unary : Unary → Datum → Result Datum Fault
judged_unary op d =
    in_primitive (unary_judged op (leaf_in (datum_type d)))
    (λ p. at_leaves p (unary_row op p) (d ∷ []))

-- Through lists and options: an end that is no leaf is a type fault, as leaves that the operation
-- does not take are. Then follows the first leaf whose result is a fault.
abbrev pub unary_of : Unary → Datum → Result Datum Fault
unary_of op d = if has_wrong_end None (d ∷ []) then Err WrongType else judged_unary op d
