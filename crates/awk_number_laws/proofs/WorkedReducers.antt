-- Worked examples of the laws of reducers, each checked by computing.
use Rattle.std.specs.Prelude.{◌≡◌, refl, ℤ, pos, negsuc, true, false, List, [], ◌∷◌, map, Ok, Err}
use Rattle.awk_types.specs.DataType.{DataType, leaf, var, opt}
use Rattle.awk_types.specs.Datum.{arr, one}
use Rattle.awk_types.specs.Value.{Value, int, null, list, values_from}
use Rattle.awk_types.specs.declared.fault.Fault.TheVariants.{Overflow}
use Rattle.awk_types.specs.declared.primitive.Primitive.TheVariants.{I64}
use Rattle.awk_reduce.specs.Reduce.{overflows, reduce_of}
use Rattle.awk_reduce.specs.Reducers.{reduced}
use Rattle.awk_reduce.specs.declared.reducer.Reducer.TheVariants.{Sum, Count, Min, Max, Argmax}
use Rattle.awk_law_chains.specs.Innermost.{innermost_lists}

abbrev int64 : DataType
int64 = leaf I64

abbrev ints : List ℤ → List Value
ints zs = map (λ z. int z) zs

abbrev row : List ℤ → Value
row zs = list (values_from (ints zs))

-- [[1,2],[],[4]]
sums : reduce_of Sum (arr (var int64) (row (pos 1 ∷ pos 2 ∷ []) ∷ row [] ∷ row (pos 4 ∷ []) ∷ []))
    ≡ Ok (arr int64 (ints (pos 3 ∷ pos 0 ∷ pos 4 ∷ [])))
sums = refl

sum_of_sums : reduce_of Sum (arr int64 (ints (pos 3 ∷ pos 0 ∷ pos 4 ∷ [])))
    ≡ Ok (one int64 (int (pos 7)))
sum_of_sums = refl

sum_of_joined : reduce_of Sum (arr int64 (ints (pos 1 ∷ pos 2 ∷ pos 4 ∷ [])))
    ≡ Ok (one int64 (int (pos 7)))
sum_of_joined = refl

-- a list's sum may overflow where that of the lists joined does not
sum_past : reduce_of Sum (arr (var int64)
    (row (pos 9223372036854775807 ∷ pos 1 ∷ []) ∷ row (negsuc 0 ∷ []) ∷ [])) ≡ Err Overflow
sum_past = refl

-- of its two innermost lists the first one's does not fit
past_first : map (overflows Sum int64) (innermost_lists (arr (var int64)
    (row (pos 9223372036854775807 ∷ pos 1 ∷ []) ∷ row (negsuc 0 ∷ []) ∷ [])))
    ≡ true ∷ false ∷ []
past_first = refl

sum_back : reduce_of Sum (arr int64 (ints (pos 9223372036854775807 ∷ pos 1 ∷ negsuc 0 ∷ [])))
    ≡ Ok (one int64 (int (pos 9223372036854775807)))
sum_back = refl

-- [null,3,5,5]
abbrev items : List Value
items = null ∷ ints (pos 3 ∷ pos 5 ∷ pos 5 ∷ [])

count : reduced Count (opt int64) items ≡ int (pos 3)
count = refl

greatest : reduced Max (opt int64) items ≡ int (pos 5)
greatest = refl

first_place : reduced Argmax (opt int64) items ≡ int (pos 2)
first_place = refl

least_of_none : reduced Min (opt int64) (null ∷ []) ≡ null
least_of_none = refl
