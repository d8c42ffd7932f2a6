-- Worked examples of operations on lists, each checked by computing.
use Rattle.std.specs.Prelude.{◌≡◌, List, [], ◌∷◌, map, pos, negsuc, codes, ℤ, Ok, Err, true, false}
use Rattle.std.specs.Prelude.{refl}
use Rattle.awk_types.specs.declared.primitive.Primitive.TheVariants.{Bool, I64}
use Rattle.awk_types.specs.DataType.{DataType, unknown, leaf, var, reg, rec, opt, uni, types_from}
use Rattle.awk_types.specs.Value.{Value, int, truth, null, list, row, values_from}
use Rattle.awk_types.specs.Datum.{Datum, arr, one}
use Rattle.awk_types.specs.declared.fault.Fault.TheVariants.{Axis, WrongType, Lengths}
use Rattle.awk_types.specs.declared.fault.Fault.TheVariants.{NoField}
use Rattle.awk_lists.specs.Num.{num_of}
use Rattle.awk_lists.specs.LocalIndex.{local_index_of}
use Rattle.awk_lists.specs.Flatten.{flatten_of}
use Rattle.awk_lists.specs.Held.{held_lists}
use Rattle.awk_lists.specs.Unflatten.{unflatten_of}
use Rattle.awk_lists.specs.RunLengths.{run_lengths_of}
use Rattle.awk_lists.specs.WithoutField.{without_field_of}

abbrev int64 : DataType
int64 = leaf I64

abbrev list_value : List Value → Value
list_value vs = list (values_from vs)

abbrev row_value : List Value → Value
row_value vs = row (values_from vs)

abbrev ints : List ℤ → List Value
ints zs = map (λ z. int z) zs

abbrev ints_list : List ℤ → Value
ints_list zs = list_value (ints zs)

-- [[1,2,3],[],[4,5]]
abbrev jagged : Datum
jagged =
    arr (var int64)
    (ints_list (pos 1 ∷ pos 2 ∷ pos 3 ∷ []) ∷ ints_list [] ∷ ints_list (pos 4 ∷ pos 5 ∷ []) ∷ [])

-- [[1,null],null,[3]]
abbrev holes : Datum
holes =
    arr (opt (var (opt int64)))
    (list_value (int (pos 1) ∷ null ∷ []) ∷ null ∷ ints_list (pos 3 ∷ []) ∷ [])

-- [[[1],[2]],[[3]]]
abbrev nested : Datum
nested =
    arr (var (reg 1 int64))
    (list_value (ints_list (pos 1 ∷ []) ∷ ints_list (pos 2 ∷ []) ∷ [])
    ∷ list_value (ints_list (pos 3 ∷ []) ∷ []) ∷ [])

-- ---- lengths

num_0 : num_of (pos 0) jagged ≡ Ok (one int64 (int (pos 3)))
num_0 = refl

num_1 : num_of (pos 1) jagged ≡ Ok (arr int64 (ints (pos 3 ∷ pos 0 ∷ pos 2 ∷ [])))
num_1 = refl

num_2 : num_of (pos 2) jagged ≡ Err Axis
num_2 = refl

-- null keeps no length
num_of_null : num_of (pos 1) holes ≡ Ok (arr (opt int64) (int (pos 2) ∷ null ∷ int (pos 1) ∷ []))
num_of_null = refl

num_of_unknown : num_of (pos 3) (arr unknown []) ≡ Ok (arr (var (var int64)) [])
num_of_unknown = refl

-- ---- places

local_index_1 : local_index_of (pos 1) jagged
    ≡ Ok (arr (var int64)
    (ints_list (pos 0 ∷ pos 1 ∷ pos 2 ∷ []) ∷ ints_list [] ∷ ints_list (pos 0 ∷ pos 1 ∷ []) ∷ []))
local_index_1 = refl

local_index_0 : local_index_of (pos 0) jagged
    ≡ Ok (arr int64 (ints (pos 0 ∷ pos 1 ∷ pos 2 ∷ [])))
local_index_0 = refl

local_index_keeps_class : local_index_of (pos 1)
    (arr (reg 2 (leaf Bool)) (list_value (truth true ∷ truth false ∷ []) ∷ []))
    ≡ Ok (arr (reg 2 int64) (ints_list (pos 0 ∷ pos 1 ∷ []) ∷ []))
local_index_keeps_class = refl

-- ---- lists joined

flatten_1 : flatten_of (pos 1) jagged
    ≡ Ok (arr int64 (ints (pos 1 ∷ pos 2 ∷ pos 3 ∷ pos 4 ∷ pos 5 ∷ [])))
flatten_1 = refl

flatten_null_as_empty : flatten_of (pos 1) holes
    ≡ Ok (arr (opt int64) (int (pos 1) ∷ null ∷ int (pos 3) ∷ []))
flatten_null_as_empty = refl

-- an empty list and null hold no item
held_lists_alone : held_lists (ints_list [] ∷ ints_list (pos 4 ∷ []) ∷ null ∷ [])
    ≡ ints_list (pos 4 ∷ []) ∷ []
held_lists_alone = refl

flatten_0 : flatten_of (pos 0) jagged ≡ Err Axis
flatten_0 = refl

flatten_negative : flatten_of (negsuc 0) jagged ≡ Err Axis
flatten_negative = refl

-- the items of the lists are no lists
flatten_2 : flatten_of (pos 2) jagged ≡ Err Axis
flatten_2 = refl

flatten_inside : flatten_of (pos 2) nested
    ≡ Ok (arr (var int64) (ints_list (pos 1 ∷ pos 2 ∷ []) ∷ ints_list (pos 3 ∷ []) ∷ []))
flatten_inside = refl

-- what is given has any length, and a list above keeps its own
flatten_gives_var : flatten_of (pos 2)
    (arr (reg 1 (reg 2 int64)) (list_value (ints_list (pos 1 ∷ pos 2 ∷ []) ∷ []) ∷ []))
    ≡ Ok (arr (var int64) (ints_list (pos 1 ∷ pos 2 ∷ []) ∷ []))
flatten_gives_var = refl

flatten_of_unknown : flatten_of (pos 2) (arr unknown []) ≡ Ok (arr (var unknown) [])
flatten_of_unknown = refl

flatten_of_optional_unknown : flatten_of (pos 1) (arr (opt unknown) (null ∷ []))
    ≡ Ok (arr unknown [])
flatten_of_optional_unknown = refl

-- a union of lists is no list
flatten_of_union : flatten_of (pos 1) (arr (uni (types_from (var int64 ∷ var (leaf Bool) ∷ []))) [])
    ≡ Err Axis
flatten_of_union = refl

-- ---- an array cut

unflatten_by_num : unflatten_of (arr int64 (ints (pos 1 ∷ pos 2 ∷ pos 3 ∷ pos 4 ∷ pos 5 ∷ [])))
    (arr int64 (ints (pos 3 ∷ pos 0 ∷ pos 2 ∷ []))) ≡ Ok jagged
unflatten_by_num = refl

unflatten_shorter : unflatten_of (arr int64 (ints (pos 1 ∷ pos 2 ∷ [])))
    (arr int64 (ints (pos 1 ∷ []))) ≡ Err Lengths
unflatten_shorter = refl

unflatten_longer : unflatten_of (arr int64 (ints (pos 1 ∷ [])))
    (arr int64 (ints (pos 1 ∷ pos 1 ∷ []))) ≡ Err Lengths
unflatten_longer = refl

unflatten_negative : unflatten_of (arr int64 (ints (pos 1 ∷ [])))
    (arr int64 (ints (pos 2 ∷ negsuc 0 ∷ []))) ≡ Err Lengths
unflatten_negative = refl

unflatten_by_unknown : unflatten_of (arr int64 []) (arr unknown []) ≡ Ok (arr (var int64) [])
unflatten_by_unknown = refl

unflatten_by_option : unflatten_of (arr int64 []) (arr (opt int64) []) ≡ Err WrongType
unflatten_by_option = refl

unflatten_by_truths : unflatten_of (arr int64 []) (arr (leaf Bool) []) ≡ Err WrongType
unflatten_by_truths = refl

unflatten_of_single : unflatten_of (one int64 (int (pos 1))) (arr int64 []) ≡ Err WrongType
unflatten_of_single = refl

-- ---- runs

runs_whole : run_lengths_of (arr int64 (ints (pos 7 ∷ pos 7 ∷ pos 8 ∷ pos 7 ∷ [])))
    ≡ Ok (arr int64 (ints (pos 2 ∷ pos 1 ∷ pos 1 ∷ [])))
runs_whole = refl

-- a run ends where its list ends
runs_in_lists : run_lengths_of
    (arr (reg 2 int64) (ints_list (pos 1 ∷ pos 1 ∷ []) ∷ ints_list (pos 1 ∷ pos 2 ∷ []) ∷ []))
    ≡ Ok (arr (var int64) (ints_list (pos 2 ∷ []) ∷ ints_list (pos 1 ∷ pos 1 ∷ []) ∷ []))
runs_in_lists = refl

runs_of_options : run_lengths_of holes ≡ Err WrongType
runs_of_options = refl

runs_of_optional_unknown : run_lengths_of (arr (opt unknown) (null ∷ [])) ≡ Err WrongType
runs_of_optional_unknown = refl

runs_of_unknown : run_lengths_of (arr unknown []) ≡ Ok (arr int64 [])
runs_of_unknown = refl

runs_of_single : run_lengths_of (one int64 (int (pos 1))) ≡ Err Axis
runs_of_single = refl

-- ---- a field less

-- [{"x":1,"y":[1]}]
abbrev rows : Datum
rows =
    arr (rec (codes "x" ∷ codes "y" ∷ []) (types_from (int64 ∷ var int64 ∷ [])))
    (row_value (int (pos 1) ∷ ints_list (pos 1 ∷ []) ∷ []) ∷ [])

without_y : without_field_of (codes "y") rows
    ≡ Ok (arr (rec (codes "x" ∷ []) (types_from (int64 ∷ []))) (row_value (int (pos 1) ∷ []) ∷ []))
without_y = refl

without_absent : without_field_of (codes "z") rows ≡ Err (NoField (codes "z"))
without_absent = refl
