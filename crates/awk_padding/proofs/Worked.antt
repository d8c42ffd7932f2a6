-- Worked examples of lists with nulls at their end, each checked by computing.
use Rattle.std.specs.Prelude.{◌≡◌, List, [], ◌∷◌, map, pos, ℤ, Ok, true, false, refl}
use Rattle.awk_types.specs.declared.primitive.Primitive.TheVariants.{I64}
use Rattle.awk_types.specs.DataType.{DataType, unknown, leaf, var, reg, opt}
use Rattle.awk_types.specs.Value.{Value, int, null, list, values_from}
use Rattle.awk_types.specs.Datum.{Datum, arr}
use Rattle.awk_padding.specs.PadNone.{pad_none_of}

abbrev int64 : DataType
int64 = leaf I64

abbrev list_value : List Value → Value
list_value vs = list (values_from vs)

abbrev ints_list : List ℤ → Value
ints_list zs = list_value (map (λ z. int z) zs)

-- [[1,2,3],[],[4,5]]
abbrev jagged : Datum
jagged =
    arr (var int64)
    (ints_list (pos 1 ∷ pos 2 ∷ pos 3 ∷ []) ∷ ints_list [] ∷ ints_list (pos 4 ∷ pos 5 ∷ []) ∷ [])

-- [1,null,3]
abbrev some : Datum
some = arr (opt int64) (int (pos 1) ∷ null ∷ int (pos 3) ∷ [])

padded_1 : pad_none_of 2 (pos 1) false jagged
    ≡ Ok (arr (var (opt int64))
    (ints_list (pos 1 ∷ pos 2 ∷ pos 3 ∷ []) ∷ list_value (null ∷ null ∷ [])
    ∷ ints_list (pos 4 ∷ pos 5 ∷ []) ∷ []))
padded_1 = refl

clipped_1 : pad_none_of 2 (pos 1) true jagged
    ≡ Ok (arr (reg 2 (opt int64))
    (ints_list (pos 1 ∷ pos 2 ∷ []) ∷ list_value (null ∷ null ∷ [])
    ∷ ints_list (pos 4 ∷ pos 5 ∷ []) ∷ []))
clipped_1 = refl

padded_0 : pad_none_of 4 (pos 0) false some
    ≡ Ok (arr (opt int64) (int (pos 1) ∷ null ∷ int (pos 3) ∷ null ∷ []))
padded_0 = refl

clipped_0 : pad_none_of 1 (pos 0) true jagged
    ≡ Ok (arr (opt (var int64)) (ints_list (pos 1 ∷ pos 2 ∷ pos 3 ∷ []) ∷ []))
clipped_0 = refl

-- without lists nothing is made, whatever the number
clipped_of_unknown : pad_none_of 18446744073709551615 (pos 1) true (arr unknown [])
    ≡ Ok (arr (reg 18446744073709551615 (opt unknown)) [])
clipped_of_unknown = refl
