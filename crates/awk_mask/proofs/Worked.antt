-- Worked examples of masks, each checked by computing.
use Rattle.std.specs.Prelude.{◌≡◌, List, [], ◌∷◌, map, pos, ℤ, Ok, Err, true, false}
use Rattle.std.specs.Prelude.{refl}
use Rattle.awk_types.specs.declared.primitive.Primitive.TheVariants.{Bool, I64}
use Rattle.awk_types.specs.DataType.{DataType, unknown, leaf, var, reg, opt}
use Rattle.awk_types.specs.Value.{Value, int, truth, null, list, values_from}
use Rattle.awk_types.specs.Datum.{Datum, arr, one}
use Rattle.awk_types.specs.declared.fault.Fault.TheVariants.{WrongType, Lengths}
use Rattle.awk_mask.specs.PutMask.{put_mask_of}

abbrev int64 : DataType
int64 = leaf I64

abbrev list_value : List Value → Value
list_value vs = list (values_from vs)

abbrev ints : List ℤ → List Value
ints zs = map (λ z. int z) zs

abbrev ints_list : List ℤ → Value
ints_list zs = list_value (ints zs)

-- [[1,2,3],[],[4,5]]
abbrev jagged : Datum
jagged =
    arr (var int64)
    (ints_list (pos 1 ∷ pos 2 ∷ pos 3 ∷ []) ∷ ints_list [] ∷ ints_list (pos 4 ∷ pos 5 ∷ []) ∷ [])

-- [1,null,3]
abbrev some : Datum
some = arr (opt int64) (int (pos 1) ∷ null ∷ int (pos 3) ∷ [])

-- [[1,null],null,[3]]
abbrev holes : Datum
holes =
    arr (opt (var (opt int64)))
    (list_value (int (pos 1) ∷ null ∷ []) ∷ null ∷ ints_list (pos 3 ∷ []) ∷ [])

-- [true,false,true]
abbrev truths : Datum
truths = arr (leaf Bool) (truth true ∷ truth false ∷ truth true ∷ [])

masked_true : put_mask_of some truths true ≡ Ok some
masked_true = refl

masked_false : put_mask_of some truths false ≡ Ok (arr (opt int64) (null ∷ null ∷ null ∷ []))
masked_false = refl

-- the items' lists keep their class
masked_in_lists : put_mask_of (arr (reg 2 int64) (ints_list (pos 1 ∷ pos 2 ∷ []) ∷ []))
    (arr (var (leaf Bool)) (list_value (truth false ∷ truth true ∷ []) ∷ [])) true
    ≡ Ok (arr (reg 2 (opt int64)) (list_value (null ∷ int (pos 2) ∷ []) ∷ []))
masked_in_lists = refl

-- a null list of either gives null, and its length is not looked at
masked_by_nulls : put_mask_of holes
    (arr (opt (var (opt (leaf Bool))))
    (list_value (null ∷ truth true ∷ []) ∷ list_value (truth true ∷ []) ∷ null ∷ [])) true
    ≡ Ok (arr (opt (var (opt int64))) (list_value (null ∷ null ∷ []) ∷ null ∷ null ∷ []))
masked_by_nulls = refl

masked_lists_whole : put_mask_of jagged truths true
    ≡ Ok (arr (opt (var int64)) (ints_list (pos 1 ∷ pos 2 ∷ pos 3 ∷ []) ∷ null
    ∷ ints_list (pos 4 ∷ pos 5 ∷ []) ∷ []))
masked_lists_whole = refl

masked_unequal : put_mask_of (arr int64 []) truths true ≡ Err Lengths
masked_unequal = refl

masked_unequal_inside : put_mask_of jagged
    (arr (var (leaf Bool)) (list_value [] ∷ list_value [] ∷ list_value [] ∷ [])) true ≡ Err Lengths
masked_unequal_inside = refl

masked_by_numbers : put_mask_of some some true ≡ Err WrongType
masked_by_numbers = refl

masked_by_lists : put_mask_of (arr int64 []) (arr (var (leaf Bool)) []) true ≡ Err WrongType
masked_by_lists = refl

masked_unknown_by_lists : put_mask_of (arr unknown []) (arr (var (leaf Bool)) []) true
    ≡ Err WrongType
masked_unknown_by_lists = refl

masked_by_unknown : put_mask_of (arr int64 []) (arr unknown []) true ≡ Ok (arr (opt int64) [])
masked_by_unknown = refl

masked_by_optional_unknown : put_mask_of (arr int64 []) (arr (opt unknown) []) true ≡ Err WrongType
masked_by_optional_unknown = refl

masked_single : put_mask_of (one int64 (int (pos 1))) truths true ≡ Err WrongType
masked_single = refl
