-- Worked examples of lifting, each checked by computing.
use Rattle.std.specs.Prelude.{◌≡◌, List, [], ◌∷◌, map, pos, negsuc, codes, ℤ, Ok, Err, true, refl}
use Rattle.awk_types.specs.declared.primitive.Primitive.TheVariants.{Bool, I64}
use Rattle.awk_types.specs.DataType.{DataType, unknown, leaf, var, reg, rec, opt, uni, types_from}
use Rattle.awk_types.specs.Value.{Value, int, truth, null, list, row, alt, values_from}
use Rattle.awk_types.specs.Datum.{Datum, arr, one}
use Rattle.awk_list_functions.specs.DropNone.{drop_none_function}
use Rattle.awk_list_functions.specs.Count.{count_function}
use Rattle.awk_types.specs.declared.fault.Fault.TheVariants.{Axis, WrongType, Depth}
use Rattle.awk_list_functions.specs.Lifting.{lift, deep}

abbrev int64 : DataType
int64 = leaf I64

abbrev list_value : List Value → Value
list_value vs = list (values_from vs)

abbrev row_value : List Value → Value
row_value vs = row (values_from vs)

abbrev ints : List ℤ → Value
ints zs = list_value (map (λ z. int z) zs)

-- [[1,2,3],[],[4,5]]
abbrev jagged : Datum
jagged =
    arr (var int64) (ints (pos 1 ∷ pos 2 ∷ pos 3 ∷ []) ∷ ints [] ∷ ints (pos 4 ∷ pos 5 ∷ []) ∷ [])

-- [[1,null],null,[3]]
abbrev holes : Datum
holes =
    arr (opt (var (opt int64)))
    (list_value (int (pos 1) ∷ null ∷ []) ∷ null ∷ ints (pos 3 ∷ []) ∷ [])

-- [{"x":[1,2],"y":[[3]]},{"x":[],"y":[[],[4,5]]}]
abbrev two_rows : Datum
two_rows = arr (rec (codes "x" ∷ codes "y" ∷ []) (types_from (var int64 ∷ var (reg 2 int64) ∷ [])))
    (row_value (ints (pos 1 ∷ pos 2 ∷ []) ∷ list_value [] ∷ []) ∷ row_value
    (ints [] ∷ list_value (ints (pos 3 ∷ pos 4 ∷ []) ∷ []) ∷ []) ∷ [])

-- [{"x":1,"y":[1,2]},{"x":2,"y":[]}]
abbrev flat_field : Datum
flat_field = arr (rec (codes "x" ∷ codes "y" ∷ []) (types_from (int64 ∷ var int64 ∷ [])))
    (row_value (int (pos 1) ∷ ints (pos 1 ∷ pos 2 ∷ []) ∷ []) ∷ row_value
    (int (pos 2) ∷ ints [] ∷ []) ∷ [])

-- ---- counts at an axis

counted_0 : lift count_function (pos 0) jagged ≡ Ok (one int64 (int (pos 3)))
counted_0 = refl

counted_1 : lift count_function (pos 1) jagged
    ≡ Ok (arr int64 (int (pos 3) ∷ int (pos 0) ∷ int (pos 2) ∷ []))
counted_1 = refl

counted_2 : lift count_function (pos 2) jagged ≡ Err Axis
counted_2 = refl

counted_negative : lift count_function (negsuc 0) jagged ≡ Err Axis
counted_negative = refl

counted_leaf_beside_list : lift count_function (pos 1) flat_field ≡ Err Axis
counted_leaf_beside_list = refl

counted_through_option : lift count_function (pos 1) holes
    ≡ Ok (arr (opt int64) (int (pos 1) ∷ null ∷ int (pos 1) ∷ []))
counted_through_option = refl

counted_through_rows : lift count_function (pos 1) two_rows
    ≡ Ok (arr (rec (codes "x" ∷ codes "y" ∷ []) (types_from (int64 ∷ int64 ∷ [])))
    (row_value (int (pos 2) ∷ int (pos 0) ∷ []) ∷ row_value (int (pos 0) ∷ int (pos 1) ∷ [])
    ∷ []))
counted_through_rows = refl

counted_of_unknown : lift count_function (pos 3) (arr unknown []) ≡ Ok (arr (var (var int64)) [])
counted_of_unknown = refl

counted_of_unknown_1 : lift count_function (pos 1) (arr unknown []) ≡ Ok (arr int64 [])
counted_of_unknown_1 = refl

-- an axis past the depth limit
counted_past_limit : lift count_function (pos 61) (arr unknown []) ≡ Err Depth
counted_past_limit = refl

counted_far_past_limit : lift count_function (pos 9223372036854775807) (arr unknown []) ≡ Err Depth
counted_far_past_limit = refl

-- an axis fault of another branch is told first
counted_axis_before_depth : lift count_function (pos 61)
    (arr (rec (codes "x" ∷ codes "y" ∷ []) (types_from (unknown ∷ int64 ∷ []))) []) ≡ Err Axis
counted_axis_before_depth = refl

-- equal alternatives are not joined
counted_through_union : lift count_function (pos 1)
    (arr (uni (types_from (var int64 ∷ reg 1 (leaf Bool) ∷ [])))
    (alt 1 (list_value (truth true ∷ [])) ∷ alt 0 (ints []) ∷ []))
    ≡ Ok (arr (uni (types_from (int64 ∷ int64 ∷ [])))
    (alt 1 (int (pos 1)) ∷ alt 0 (int (pos 0)) ∷ []))
counted_through_union = refl

-- a list above the axis keeps its class
counted_below_regular : lift count_function (pos 2)
    (arr (reg 2 (var int64)) (list_value (ints [] ∷ ints (pos 7 ∷ []) ∷ []) ∷ []))
    ≡ Ok (arr (reg 2 int64) (ints (pos 0 ∷ pos 1 ∷ []) ∷ []))
counted_below_regular = refl

-- in a single value axis 0 is the lists directly inside
counted_of_one : lift count_function (pos 0) (one
    (rec (codes "x" ∷ []) (types_from (var int64 ∷ [])))
    (row_value (ints (pos 7 ∷ pos 8 ∷ []) ∷ [])))
    ≡ Ok (one (rec (codes "x" ∷ []) (types_from (int64 ∷ []))) (row_value (int (pos 2) ∷ [])))
counted_of_one = refl

counted_of_leaf : lift count_function (pos 0) (one int64 (int (pos 5))) ≡ Err Axis
counted_of_leaf = refl

no_fields_no_fault : lift count_function (pos 4) (arr (rec [] (types_from [])) (row_value [] ∷ []))
    ≡ Ok (arr (rec [] (types_from [])) (row_value [] ∷ []))
no_fields_no_fault = refl

-- ---- items that are not null

drop_none_0 : lift drop_none_function (pos 0) holes
    ≡ Ok (arr (var (opt int64)) (list_value (int (pos 1) ∷ null ∷ []) ∷ ints (pos 3 ∷ []) ∷ []))
drop_none_0 = refl

drop_none_1 : lift drop_none_function (pos 1) holes
    ≡ Ok (arr (opt (var int64)) (ints (pos 1 ∷ []) ∷ null ∷ ints (pos 3 ∷ []) ∷ []))
drop_none_1 = refl

drop_none_gives_var : lift drop_none_function (pos 1)
    (arr (reg 1 (opt int64)) (list_value (null ∷ []) ∷ [])) ≡ Ok (arr (var int64) (ints [] ∷ []))
drop_none_gives_var = refl

-- ---- innermost lists

count_innermost : deep count_function holes
    ≡ Ok (arr (opt int64) (int (pos 1) ∷ null ∷ int (pos 1) ∷ []))
count_innermost = refl

count_whole : deep count_function (arr (opt int64) (int (pos 1) ∷ null ∷ int (pos 3) ∷ []))
    ≡ Ok (one int64 (int (pos 2)))
count_whole = refl

count_below_regular : deep count_function (arr (reg 1 (var int64))
    (list_value (ints (pos 6 ∷ pos 7 ∷ []) ∷ []) ∷ [])) ≡ Ok
    (arr (reg 1 int64) (ints (pos 2 ∷ []) ∷ []))
count_below_regular = refl

count_of_rows : deep count_function flat_field ≡ Err WrongType
count_of_rows = refl

count_of_leaf : deep count_function (one int64 (int (pos 5))) ≡ Err Axis
count_of_leaf = refl
