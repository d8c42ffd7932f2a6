-- Worked examples of nulls that are filled, each checked by computing.
use Rattle.std.specs.Prelude.{◌≡◌, List, [], ◌∷◌, pos, negsuc, Ok, Err, true, refl}
use Rattle.awk_types.specs.declared.primitive.Primitive.TheVariants.{Bool, I8, U8, I64}
use Rattle.awk_types.specs.DataType.{DataType, unknown, leaf, var, reg, tup, opt, uni, no_types}
use Rattle.awk_types.specs.DataType.{type}
use Rattle.awk_types.specs.Value.{Value, int, truth, null, list, row, alt, values_from}
use Rattle.awk_types.specs.Datum.{Datum, arr, one}
use Rattle.awk_types.specs.declared.fault.Fault.TheVariants.{Axis, WrongType, Overflow}
use Rattle.awk_layout.specs.Filler.{Filler, literal, datum}
use Rattle.awk_fill.specs.FillNone.{fill_none_of}

abbrev int64 : DataType
int64 = leaf I64

abbrev truths : DataType
truths = leaf Bool

abbrev list_value : List Value → Value
list_value vs = list (values_from vs)

-- [1,null,3]
abbrev some : Datum
some = arr (opt int64) (int (pos 1) ∷ null ∷ int (pos 3) ∷ [])

-- [[1,null],null,[3]]
abbrev holes : Datum
holes =
    arr (opt (var (opt int64)))
    (list_value (int (pos 1) ∷ null ∷ []) ∷ null ∷ list_value (int (pos 3) ∷ []) ∷ [])

abbrev a_truth : Filler
a_truth = datum (one truths (truth true))

with_literal : fill_none_of some (literal (pos 0)) (pos 0)
    ≡ Ok (arr int64 (int (pos 1) ∷ int (pos 0) ∷ int (pos 3) ∷ []))
with_literal = refl

-- whole numbers and truth values unify to a union
with_truth : fill_none_of some a_truth (pos 0)
    ≡ Ok (arr (uni (type int64 (type truths no_types)))
    (alt 0 (int (pos 1)) ∷ alt 1 (truth true) ∷ alt 0 (int (pos 3)) ∷ []))
with_truth = refl

-- null lists stay where the items of lists are filled
in_lists : fill_none_of holes (literal (negsuc 0)) (pos 1)
    ≡ Ok (arr (opt (var int64))
    (list_value (int (pos 1) ∷ int (negsuc 0) ∷ []) ∷ null ∷ list_value (int (pos 3) ∷ []) ∷ []))
in_lists = refl

-- a null list becomes the number, as a literal of int64
for_lists : fill_none_of holes (literal (pos 0)) (pos 0)
    ≡ Ok (arr (uni (type (var (opt int64)) (type int64 no_types)))
    (alt 0 (list_value (int (pos 1) ∷ null ∷ [])) ∷ alt 1 (int (pos 0))
    ∷ alt 0 (list_value (int (pos 3) ∷ [])) ∷ []))
for_lists = refl

-- a list fills lists, and its items become those of the lists
with_list : fill_none_of holes (datum (one (reg 1 truths) (list_value (truth true ∷ [])))) (pos 0)
    ≡ Ok (arr (var (opt (uni (type int64 (type truths no_types)))))
    (list_value (alt 0 (int (pos 1)) ∷ null ∷ []) ∷ list_value (alt 1 (truth true) ∷ [])
    ∷ list_value (alt 0 (int (pos 3)) ∷ []) ∷ []))
with_list = refl

keeps_class : fill_none_of (arr (reg 2 (opt int64)) (list_value (null ∷ int (pos 7) ∷ []) ∷ []))
    (literal (pos 5)) (pos 1)
    ≡ Ok (arr (reg 2 int64) (list_value (int (pos 5) ∷ int (pos 7) ∷ []) ∷ []))
keeps_class = refl

-- a type is given without values too, and no value is of unknown
of_nulls : fill_none_of (arr (opt unknown) (null ∷ [])) (literal (pos 5)) (pos 0)
    ≡ Ok (arr int64 (int (pos 5) ∷ []))
of_nulls = refl

without_nulls : fill_none_of (arr (opt (leaf I8)) (int (pos 1) ∷ []))
    (datum (one (leaf U8) (int (pos 2)))) (pos 0)
    ≡ fill_none_of (arr (opt (leaf I8)) (int (pos 1) ∷ [])) (datum (one (leaf U8) (int (pos 200))))
    (pos 0)
without_nulls = refl

overflows : fill_none_of (arr (opt (leaf U8)) []) (literal (pos 256)) (pos 0) ≡ Err Overflow
overflows = refl

-- a literal beside truth values is of int64
overflows_beside_truths : fill_none_of (arr (opt truths) []) (literal (pos 9223372036854775808))
    (pos 0)
    ≡ Err Overflow
overflows_beside_truths = refl

-- where no items are optional nothing changes, and a literal is not judged
not_judged : fill_none_of (arr (leaf U8) (int (pos 1) ∷ [])) (literal (pos 256)) (pos 0)
    ≡ Ok (arr (leaf U8) (int (pos 1) ∷ []))
not_judged = refl

optional_value : fill_none_of (arr int64 []) (datum (one (opt int64) (int (pos 1)))) (pos 0)
    ≡ Err WrongType
optional_value = refl

array_value : fill_none_of some (datum some) (pos 0) ≡ Err WrongType
array_value = refl

-- an axis is judged before the value, and the value where no list is reached too
no_axis : fill_none_of some (datum some) (pos 1) ≡ Err Axis
no_axis = refl

without_fields : fill_none_of (one (tup no_types) (row (values_from []))) (datum some) (pos 3)
    ≡ Err WrongType
without_fields = refl

without_fields_filled : fill_none_of (one (tup no_types) (row (values_from []))) a_truth (pos 3)
    ≡ Ok (one (tup no_types) (row (values_from [])))
without_fields_filled = refl
