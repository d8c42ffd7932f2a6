-- An operation at the leaves of data that are paired: a part on types, a part on values, and the
-- first fault.
use Rattle.std.specs.Prelude.{List, [], ◌∷◌, map, Option, Some, None, Result, Ok, Err, false}
use Rattle.awk_types.specs.DataType.{DataType, leaf}
use Rattle.awk_types.specs.Datum.{Datum}
use Rattle.awk_types.specs.Faults.{limit_refused}
use Rattle.awk_types.specs.Gives.{refused_or, ◌or◌}
use Rattle.awk_types.specs.Value.{Value, null}
use Rattle.awk_types.specs.declared.fault.Fault.{Fault}
use Rattle.awk_types.specs.declared.primitive.Primitive.{Primitive}
use Rattle.awk_frames.specs.Framed.{over, over_type}
use Rattle.awk_pair_operands.specs.Answer.{shared_ends}
use Rattle.awk_pair_operands.specs.Pairs.{pair_refused, pair_type, pair_values, some_array}
use Rattle.awk_pair_operands.specs.Pairs.{datum_from}

-- ---- results of which some may be faults

abbrev pub value_or_null : Result Value Fault → Value
value_or_null (Ok v) = v
value_or_null (Err f) = null

abbrev pub first_fault : List (Result Value Fault) → Option Fault
first_fault [] = None
first_fault (Ok v ∷ rs) = first_fault rs
first_fault (Err f ∷ rs) = Some f

-- ---- leaves of a primitive in the place of each row of leaves

-- the lists and options that the data share, over the primitive
abbrev pub result_type : Primitive → List Datum → DataType
result_type p ds = over_type (pair_type false None ds) (leaf p)

-- the first fault: a limit that the type passes, lists that are unequally long or too large, and
-- the first row, in order, whose result is a fault
abbrev pub leaves_refused : Primitive → (Value → Result Value Fault) → List Datum → Option Fault
leaves_refused p f ds =
    limit_refused (result_type p ds)
    or (pair_refused false None ds or first_fault (map f (shared_ends false None ds)))

-- what a function gives of each row of leaves
abbrev pub row_values : (Value → Result Value Fault) → List Datum → List Value
row_values f ds =
    map (over (pair_type false None ds) (λ v. value_or_null (f v))) (pair_values false None ds)

abbrev pub at_leaves : Primitive → (Value → Result Value Fault) → List Datum
    → Result Datum Fault
at_leaves p f ds =
    refused_or (leaves_refused p f ds)
    (datum_from (some_array ds) (result_type p ds) (row_values f ds))
