-- Operations on two operands: leaf by leaf, over their pairing to the leaves.
use Rattle.std.specs.Prelude.{length, Result, Err, None, if◌then◌else◌}
use Rattle.awk_types.specs.Datum.{Datum}
use Rattle.awk_types.specs.Value.{Value}
use Rattle.awk_types.specs.declared.fault.Fault.{Fault}
use Rattle.awk_types.specs.declared.fault.Fault.TheVariants.{WrongType}
use Rattle.awk_types.specs.declared.primitive.Primitive.{Primitive}
use Rattle.awk_layout.specs.Filler.{Filler}
use Rattle.awk_leaves.specs.Table.{binary_judged}
use Rattle.awk_leaves.specs.Values.{binary_at}
use Rattle.awk_leaves.specs.declared.operation.Binary.{Binary}
use Rattle.awk_pair_operands.specs.Pairs.{has_wrong_end}
use Rattle.awk_ends.specs.Operands.{in_primitive, data_in, leaf_of, at_end, both_data}
use Rattle.awk_arith.specs.AtLeaves.{at_leaves}

-- the result at an end, in a primitive
abbrev pub binary_row : Binary → Primitive → Filler → Filler → Value → Result Value Fault
binary_row op p a b =
    λ v. binary_at op p (at_end a 0 v) (at_end b (length (data_in a)) v)

-- where each end is a leaf
abbrev pub judged_binary : Binary → Filler → Filler → Result Datum Fault
judged_binary op a b =
    in_primitive (binary_judged op (leaf_of a) (leaf_of b))
    (λ p. at_leaves p (binary_row op p a b) (both_data a b))

-- An end that is no leaf is a type fault, as leaves that the operation does not take are. Then
-- follow a literal that does not fit, the limits of the result's type, lists that are unequally
-- long or too large, and the first leaf whose result is a fault.
abbrev pub binary_of : Binary → Filler → Filler → Result Datum Fault
binary_of op a b =
    if has_wrong_end None (both_data a b) then Err WrongType else judged_binary op a b
