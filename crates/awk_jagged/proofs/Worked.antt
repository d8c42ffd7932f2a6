-- Worked picks row by row, each computed.
use Rattle.std.specs.Prelude.{◌≡◌, pos, negsuc, true, false, ℤ, List, [], ◌∷◌, map, codes, Ok, Err}
use Rattle.std.specs.Prelude.{refl}
use Rattle.awk_types.specs.DataType.{DataType, leaf, var, reg, opt, unknown, rec, types_from}
use Rattle.awk_types.specs.Value.{Value, int, truth, null, list, row as record_value, values_from}
use Rattle.awk_types.specs.Datum.{Datum, arr, one}
use Rattle.awk_types.specs.declared.primitive.Primitive.TheVariants.{Bool, I8, I64}
use Rattle.awk_types.specs.declared.fault.Fault.TheVariants.{WrongType, Lengths, Index}
use Rattle.awk_jagged.specs.Jagged.{jagged_of}

abbrev list_value : List Value → Value
list_value vs = list (values_from vs)

abbrev ints : List ℤ → List Value
ints zs = map (λ z. int z) zs

abbrev row : List ℤ → Value
row zs = list_value (ints zs)

abbrev int64 : DataType
int64 = leaf I64

-- [[1,2,3],[4,5],[6]]
abbrev x : Datum
x =
    arr (var int64)
    (row (pos 1 ∷ pos 2 ∷ pos 3 ∷ []) ∷ row (pos 4 ∷ pos 5 ∷ []) ∷ row (pos 6 ∷ []) ∷ [])

-- [[-1,0],null,[i]]
abbrev places : ℤ → Datum
places i = arr (opt (var int64)) (row (negsuc 0 ∷ pos 0 ∷ []) ∷ null ∷ row (i ∷ []) ∷ [])

place_out_of_its_row : jagged_of x (places (pos 1)) ≡ Err Index
place_out_of_its_row = refl

row_by_row : jagged_of x (places (pos 0))
    ≡ Ok (arr (opt (var int64)) (row (pos 3 ∷ pos 1 ∷ []) ∷ null ∷ row (pos 6 ∷ []) ∷ []))
row_by_row = refl

-- a mask, whose nulls give nulls; rows of one size are picked as rows of any
by_masks : jagged_of (arr (reg 2 int64) (row (pos 1 ∷ pos 2 ∷ []) ∷ row (pos 3 ∷ pos 4 ∷ []) ∷ []))
    (arr (var (opt (leaf Bool)))
    (list_value (truth false ∷ truth true ∷ []) ∷ list_value (null ∷ truth false ∷ []) ∷ []))
    ≡ Ok (arr (var (opt int64)) (row (pos 2 ∷ []) ∷ list_value (null ∷ []) ∷ []))
by_masks = refl

-- two levels down, and lengths anywhere are told before an index anywhere
abbrev deep : Datum
deep =
    arr (var (var int64))
    (list_value (row (pos 1 ∷ pos 2 ∷ []) ∷ row [] ∷ []) ∷ list_value [] ∷ [])

two_levels : jagged_of deep
    (arr (var (var int64)) (list_value (row (pos 1 ∷ []) ∷ row [] ∷ []) ∷ list_value [] ∷ []))
    ≡ Ok (arr (var (var int64)) (list_value (row (pos 2 ∷ []) ∷ row [] ∷ []) ∷ list_value [] ∷ []))
two_levels = refl

lengths_before_index : jagged_of deep
    (arr (var (var int64)) (list_value (row (pos 9 ∷ []) ∷ []) ∷ list_value [] ∷ [])) ≡ Err Lengths
lengths_before_index = refl

index_two_levels_down : jagged_of deep
    (arr (var (var int64)) (list_value (row (pos 9 ∷ []) ∷ row [] ∷ []) ∷ list_value [] ∷ []))
    ≡ Err Index
index_two_levels_down = refl

-- a null row of what is picked from: the other's row is not looked at
null_row : jagged_of (arr (opt (var int64)) (null ∷ [])) (arr (var int64) (row (pos 9 ∷ []) ∷ []))
    ≡ Ok (arr (opt (var int64)) (null ∷ []))
null_row = refl

of_unknown : jagged_of (arr unknown []) (arr (var int64) []) ≡ Ok (arr (var unknown) [])
of_unknown = refl

of_no_lists : jagged_of (arr int64 []) (arr (var int64) []) ≡ Err WrongType
of_no_lists = refl

by_rows : jagged_of x (arr (var (rec [] (types_from []))) []) ≡ Err WrongType
by_rows = refl

of_a_single_value : jagged_of (one int64 (int (pos 1))) (arr (var int64) []) ≡ Err WrongType
of_a_single_value = refl

-- ---- rows of records, by the order of one field

abbrev muon : ℤ → ℤ → Value
muon pt charge = record_value (values_from (int pt ∷ int charge ∷ []))

abbrev muons : DataType
muons = rec (codes "pt" ∷ codes "charge" ∷ []) (types_from (int64 ∷ leaf I8 ∷ []))

abbrev mu : Datum
mu =
    arr (var muons)
    (list_value (muon (pos 50) (pos 1) ∷ muon (pos 40) (negsuc 0) ∷ []) ∷ list_value []
    ∷ list_value (muon (pos 30) (pos 1) ∷ muon (pos 20) (pos 1) ∷ muon (pos 10) (negsuc 0) ∷ [])
    ∷ list_value (muon (pos 60) (negsuc 0) ∷ []) ∷ [])

by_order : jagged_of mu
    (arr (var int64)
    (row (pos 1 ∷ pos 0 ∷ []) ∷ row [] ∷ row (pos 2 ∷ pos 1 ∷ pos 0 ∷ []) ∷ row (pos 0 ∷ []) ∷ []))
    ≡ Ok (arr (var muons)
    (list_value (muon (pos 40) (negsuc 0) ∷ muon (pos 50) (pos 1) ∷ []) ∷ list_value []
    ∷ list_value (muon (pos 10) (negsuc 0) ∷ muon (pos 20) (pos 1) ∷ muon (pos 30) (pos 1) ∷ [])
    ∷ list_value (muon (pos 60) (negsuc 0) ∷ []) ∷ []))
by_order = refl
