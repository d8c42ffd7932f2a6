-- Worked examples of joined arrays, each checked by computing.
use Rattle.std.specs.Prelude.{◌≡◌, List, [], ◌∷◌, map, pos, negsuc, ℤ, true, Ok, Err, refl}
use Rattle.awk_types.specs.declared.primitive.Primitive.TheVariants.{Bool, I64}
use Rattle.awk_types.specs.DataType.{DataType, unknown, leaf, var, reg, opt, uni, types_from}
use Rattle.awk_types.specs.Value.{Value, int, truth, null, list, alt, values_from}
use Rattle.awk_types.specs.Datum.{Datum, arr, one}
use Rattle.awk_types.specs.declared.fault.Fault.TheVariants.{Axis, Lengths}
use Rattle.awk_merge_operands.specs.Concatenate.{concatenate_of}

abbrev int64 : DataType
int64 = leaf I64

abbrev list_value : List Value → Value
list_value vs = list (values_from vs)

abbrev ints : List ℤ → Value
ints zs = list_value (map (λ z. int z) zs)

-- [[1,2,3],[],[4,5]]
abbrev jagged : Datum
jagged =
    arr (var int64) (ints (pos 1 ∷ pos 2 ∷ pos 3 ∷ []) ∷ ints [] ∷ ints (pos 4 ∷ pos 5 ∷ []) ∷ [])

-- [[1,null],null,[3]]
abbrev holes : Datum
holes =
    arr (opt (var (opt int64)))
    (list_value (int (pos 1) ∷ null ∷ []) ∷ null ∷ ints (pos 3 ∷ []) ∷ [])

one_after_another : concatenate_of (pos 0) (jagged ∷ holes ∷ []) ≡ Ok (arr (opt (var (opt int64)))
    (ints (pos 1 ∷ pos 2 ∷ pos 3 ∷ []) ∷ ints [] ∷ ints (pos 4 ∷ pos 5 ∷ [])
    ∷ list_value (int (pos 1) ∷ null ∷ []) ∷ null ∷ ints (pos 3 ∷ []) ∷ []))
one_after_another = refl

row_by_row : concatenate_of (pos 1) (jagged ∷ jagged ∷ []) ≡ Ok (arr (var int64)
    (ints (pos 1 ∷ pos 2 ∷ pos 3 ∷ pos 1 ∷ pos 2 ∷ pos 3 ∷ []) ∷ ints []
    ∷ ints (pos 4 ∷ pos 5 ∷ pos 4 ∷ pos 5 ∷ []) ∷ []))
row_by_row = refl

-- a row that is null in an operand is null
null_row : concatenate_of (pos 1) (jagged ∷ holes ∷ []) ≡ Ok (arr (opt (var (opt int64)))
    (list_value (int (pos 1) ∷ int (pos 2) ∷ int (pos 3) ∷ int (pos 1) ∷ null ∷ []) ∷ null
    ∷ ints (pos 4 ∷ pos 5 ∷ pos 3 ∷ []) ∷ []))
null_row = refl

-- whole numbers and truth values do not join: each gets its tag
apart : concatenate_of (pos 0) (arr int64 (int (pos 7) ∷ []) ∷ arr (leaf Bool) (truth true ∷ []) ∷
    [])
    ≡ Ok (arr (uni (types_from (int64 ∷ leaf Bool ∷ [])))
    (alt 0 (int (pos 7)) ∷ alt 1 (truth true) ∷ []))
apart = refl

-- unknown counts as lists, here as the only operand
nothing_joined : concatenate_of (pos 1) (arr unknown [] ∷ []) ≡ Ok (arr (var unknown) [])
nothing_joined = refl

other_axis : concatenate_of (pos 2) (jagged ∷ []) ≡ Err Axis
other_axis = refl

negative_axis : concatenate_of (negsuc 0) (jagged ∷ []) ≡ Err Axis
negative_axis = refl

single_value : concatenate_of (pos 0) (jagged ∷ one int64 (int (pos 1)) ∷ []) ≡ Err Axis
single_value = refl

-- items of an operand are no lists, though the lengths differ too
no_lists : concatenate_of (pos 1) (jagged ∷ arr int64 (int (pos 1) ∷ []) ∷ []) ≡ Err Axis
no_lists = refl

other_lengths : concatenate_of (pos 1) (jagged ∷ arr (reg 1 int64) (ints (pos 1 ∷ []) ∷ []) ∷ [])
    ≡ Err Lengths
other_lengths = refl
