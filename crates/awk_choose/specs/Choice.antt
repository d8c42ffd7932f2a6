-- A choice between two operands by a third, leaf by leaf, where nulls stay at the leaves.
use Rattle.std.specs.Prelude.{ℕ, suc, Bool, not, List, ◌∷◌, map, length, Option, Some, Result, Err}
use Rattle.std.specs.Prelude.{false, if◌then◌else◌}
use Rattle.std.specs.List.{list_all}
use Rattle.awk_types.specs.DataType.{DataType, leaf}
use Rattle.awk_types.specs.Datum.{Datum, datum_type}
use Rattle.awk_types.specs.Faults.{limit_refused}
use Rattle.awk_types.specs.Gives.{refused_or, ◌or◌}
use Rattle.awk_types.specs.Predicates.{is_leaf}
use Rattle.awk_types.specs.Simple.{present, option_if}
use Rattle.awk_types.specs.Value.{Value}
use Rattle.awk_types.specs.declared.fault.Fault.{Fault}
use Rattle.awk_types.specs.declared.fault.Fault.TheVariants.{WrongType}
use Rattle.awk_types.specs.declared.primitive.Primitive.{Primitive}
use Rattle.awk_columns.specs.Columns.{part_at}
use Rattle.awk_layout.specs.Filler.{Filler}
use Rattle.awk_leaves.specs.Table.{choice_judged}
use Rattle.awk_leaves.specs.Values.{chosen_at}
use Rattle.awk_frames.specs.Framed.{over, over_type}
use Rattle.awk_pair_operands.specs.Pairs.{pair_refused, pair_type, pair_values, some_array}
use Rattle.awk_pair_operands.specs.Pairs.{datum_from, leaf_types}
use Rattle.awk_pair_sides.specs.Levels.{some_option}
use Rattle.awk_ends.specs.Operands.{leaf_in, in_primitive, data_in, leaf_of, at_end, both_data}

-- deeper than lists of any type go, so that the pairing ends at what is no list
abbrev pub far : Option ℕ
far = Some 64

-- the data that are paired: a literal is none, and stands at each end
abbrev pub choice_data : Datum → Filler → Filler → List Datum
choice_data c a b = c ∷ both_data a b

-- whether all ends are leaves, optional or not
abbrev pub are_leaves : List Datum → Bool
are_leaves ds = list_all is_leaf (map present (leaf_types far ds))

-- ---- the result

-- a leaf is optional where one of the data is optional there
abbrev pub end_type : Primitive → List Datum → DataType
end_type p ds = option_if (some_option (leaf_types far ds)) (leaf p)

abbrev pub result_type : Primitive → List Datum → DataType
result_type p ds = over_type (pair_type false far ds) (end_type p ds)

-- null where the condition is null, else the chosen item, null or not
abbrev pub choice_row : Filler → Filler → Value → Value
choice_row a b =
    λ v. chosen_at (part_at 0 v) (at_end a 1 v) (at_end b (suc (length (data_in a))) v)

abbrev pub result_values : Filler → Filler → List Datum → List Value
result_values a b ds =
    map (over (pair_type false far ds) (choice_row a b)) (pair_values false far ds)

-- ---- the faults

-- in a primitive, where all ends are leaves
abbrev pub chosen_in : Filler → Filler → List Datum → Primitive → Result Datum Fault
chosen_in a b ds p =
    refused_or (limit_refused (result_type p ds) or pair_refused false far ds)
    (datum_from (some_array ds) (result_type p ds) (result_values a b ds))

-- in the primitive that the types are judged to give
abbrev pub judged_choice : Datum → Filler → Filler → Result Datum Fault
judged_choice c a b =
    in_primitive (choice_judged (leaf_in (datum_type c)) (leaf_of a) (leaf_of b))
    (chosen_in a b (choice_data c a b))

-- An end that is no leaf is a type fault, as a condition that is no truth value and items that do
-- not promote are. Then follow a literal that does not fit, the limits of the result's type, and
-- lists that are unequally long or too large.
abbrev pub choose_of : Datum → Filler → Filler → Result Datum Fault
choose_of c a b =
    if not (are_leaves (choice_data c a b)) then Err WrongType else judged_choice c a b
