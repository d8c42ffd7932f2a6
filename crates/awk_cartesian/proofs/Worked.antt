-- Worked cartesian products, each checked by computing.
use Rattle.std.specs.Prelude.{◌≡◌, refl, List, [], ◌∷◌, map, pos, ℤ, Ok, Err, true, false}
use Rattle.awk_types.specs.declared.primitive.Primitive.TheVariants.{I64}
use Rattle.awk_types.specs.DataType.{DataType, unknown, leaf, var, reg, opt, tup, types_from}
use Rattle.awk_types.specs.Value.{Value, int, null, list, row, values_from}
use Rattle.awk_types.specs.Datum.{arr, one}
use Rattle.awk_types.specs.declared.fault.Fault.TheVariants.{Axis, Lengths}
use Rattle.awk_cartesian.specs.Cartesian.{cartesian_of}

abbrev int64 : DataType
int64 = leaf I64

abbrev pair_type : DataType → DataType → DataType
pair_type t u = tup (types_from (t ∷ u ∷ []))

abbrev ints : List ℤ → List Value
ints zs = map (λ z. int z) zs

abbrev items : List ℤ → Value
items zs = list (values_from (ints zs))

abbrev tuples : List Value → Value
tuples vs = list (values_from vs)

abbrev pair : ℤ → ℤ → Value
pair a b = row (values_from (int a ∷ int b ∷ []))

-- y = [[1,2],[3]], z = [[5,6],[]]
rows_of_two : cartesian_of (pos 1) false
    (arr (var int64) (items (pos 1 ∷ pos 2 ∷ []) ∷ items (pos 3 ∷ []) ∷ [])
    ∷ arr (var int64) (items (pos 5 ∷ pos 6 ∷ []) ∷ items [] ∷ []) ∷ [])
    ≡ Ok (arr (var (pair_type int64 int64))
    (tuples (pair (pos 1) (pos 5) ∷ pair (pos 1) (pos 6) ∷ pair (pos 2) (pos 5)
    ∷ pair (pos 2) (pos 6) ∷ [])
    ∷ tuples [] ∷ []))
rows_of_two = refl

-- a null row of either makes a null row
null_row : cartesian_of (pos 1) true
    (arr (opt (var int64)) (null ∷ items (pos 7 ∷ pos 8 ∷ []) ∷ [])
    ∷ arr (reg 1 int64) (items (pos 5 ∷ []) ∷ items (pos 6 ∷ []) ∷ []) ∷ [])
    ≡ Ok (arr (opt (var (pair_type int64 int64)))
    (null ∷ tuples (pair (pos 0) (pos 0) ∷ pair (pos 1) (pos 0) ∷ []) ∷ []))
null_row = refl

of_two_arrays : cartesian_of (pos 0) true
    (arr int64 (ints (pos 8 ∷ pos 9 ∷ [])) ∷ arr int64 (ints (pos 7 ∷ [])) ∷ [])
    ≡ Ok (arr (pair_type int64 int64) (pair (pos 0) (pos 0) ∷ pair (pos 1) (pos 0) ∷ []))
of_two_arrays = refl

-- unknown counts as lists of unknown
of_unknown : cartesian_of (pos 1) false (arr unknown [] ∷ arr (opt unknown) [] ∷ [])
    ≡ Ok (arr (opt (var (pair_type unknown unknown))) [])
of_unknown = refl

unequal_rows : cartesian_of (pos 1) false
    (arr (var int64) [] ∷ arr (var int64) (items [] ∷ []) ∷ []) ≡ Err Lengths
unequal_rows = refl

of_leaves : cartesian_of (pos 1) false (arr (var int64) [] ∷ arr int64 [] ∷ []) ≡ Err Axis
of_leaves = refl

of_a_single_value : cartesian_of (pos 0) false (one int64 (int (pos 1)) ∷ []) ≡ Err Axis
of_a_single_value = refl

beyond_rows : cartesian_of (pos 2) false (arr (var (var int64)) [] ∷ []) ≡ Err Axis
beyond_rows = refl
