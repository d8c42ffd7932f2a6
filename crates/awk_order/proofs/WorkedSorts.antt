-- Worked sorts, each checked by computing.
use Rattle.std.specs.Prelude.{◌≡◌, refl, List, [], ◌∷◌, map, pos, ℤ, Ok, Err, true, false}
use Rattle.awk_types.specs.declared.primitive.Primitive.TheVariants.{Bool, I64}
use Rattle.awk_types.specs.DataType.{DataType, unknown, leaf, var, reg, rec, opt, types_from}
use Rattle.awk_types.specs.Value.{Value, int, truth, null, list, values_from}
use Rattle.awk_types.specs.Datum.{Datum, arr, one}
use Rattle.awk_types.specs.declared.fault.Fault.TheVariants.{Axis, WrongType}
use Rattle.awk_order.specs.Sort.{sort_of, argsort_of}

abbrev int64 : DataType
int64 = leaf I64

abbrev list_value : List Value → Value
list_value vs = list (values_from vs)

abbrev ints : List ℤ → List Value
ints zs = map (λ z. int z) zs

abbrev items : List ℤ → Value
items zs = list_value (ints zs)

-- [1,null,3]
abbrev o : Datum
o = arr (opt int64) (int (pos 1) ∷ null ∷ int (pos 3) ∷ [])

-- [7,7,5,7]
abbrev c : Datum
c = arr int64 (ints (pos 7 ∷ pos 7 ∷ pos 5 ∷ pos 7 ∷ []))

lists_down : sort_of false
    (arr (var int64)
    (items (pos 1 ∷ pos 2 ∷ pos 3 ∷ []) ∷ items [] ∷ items (pos 4 ∷ pos 5 ∷ []) ∷ []))
    ≡ Ok (arr (var int64)
    (items (pos 3 ∷ pos 2 ∷ pos 1 ∷ []) ∷ items [] ∷ items (pos 5 ∷ pos 4 ∷ []) ∷ []))
lists_down = refl

whole_down : sort_of false o ≡ Ok (arr (opt int64) (int (pos 3) ∷ int (pos 1) ∷ null ∷ []))
whole_down = refl

places_up : argsort_of true c ≡ Ok (arr int64 (ints (pos 2 ∷ pos 0 ∷ pos 1 ∷ pos 3 ∷ [])))
places_up = refl

places_down : argsort_of false c ≡ Ok (arr int64 (ints (pos 0 ∷ pos 1 ∷ pos 3 ∷ pos 2 ∷ [])))
places_down = refl

places_with_null : argsort_of true o ≡ Ok (arr int64 (ints (pos 0 ∷ pos 2 ∷ pos 1 ∷ [])))
places_with_null = refl

truths_up : sort_of true (arr (leaf Bool) (truth true ∷ truth false ∷ truth true ∷ []))
    ≡ Ok (arr (leaf Bool) (truth false ∷ truth true ∷ truth true ∷ []))
truths_up = refl

-- lists keep their class, and a null list stays null
sized_lists : argsort_of true (arr (opt (reg 2 int64)) (items (pos 4 ∷ pos 3 ∷ []) ∷ null ∷ []))
    ≡ Ok (arr (opt (reg 2 int64)) (items (pos 1 ∷ pos 0 ∷ []) ∷ null ∷ []))
sized_lists = refl

of_unknown : sort_of true (arr unknown []) ≡ Ok (arr unknown [])
of_unknown = refl

of_rows : sort_of true (arr (rec [] (types_from [])) []) ≡ Err WrongType
of_rows = refl

of_a_single_value : sort_of true (one int64 (int (pos 5))) ≡ Err Axis
of_a_single_value = refl

places_of_lists : argsort_of true
    (arr (var int64)
    (items (pos 50 ∷ pos 40 ∷ []) ∷ items [] ∷ items (pos 30 ∷ pos 20 ∷ pos 10 ∷ [])
    ∷ items (pos 60 ∷ []) ∷ []))
    ≡ Ok (arr (var int64)
    (items (pos 1 ∷ pos 0 ∷ []) ∷ items [] ∷ items (pos 2 ∷ pos 1 ∷ pos 0 ∷ [])
    ∷ items (pos 0 ∷ []) ∷ []))
places_of_lists = refl
