-- Worked examples of operations on nulls, each checked by computing.
use Rattle.std.specs.Prelude.{◌≡◌, List, [], ◌∷◌, map, pos, negsuc, ℤ, Ok, Err, true, false}
use Rattle.std.specs.Prelude.{refl}
use Rattle.awk_types.specs.declared.primitive.Primitive.TheVariants.{Bool, I64}
use Rattle.awk_types.specs.DataType.{DataType, unknown, leaf, var, reg, opt}
use Rattle.awk_types.specs.Value.{Value, int, truth, null, list, values_from}
use Rattle.awk_types.specs.Datum.{Datum, arr, one}
use Rattle.awk_types.specs.declared.fault.Fault.TheVariants.{Axis}
use Rattle.awk_nulls.specs.IsNone.{is_none_of}
use Rattle.awk_nulls.specs.DropNone.{drop_none_of}
use Rattle.awk_nulls.specs.Firsts.{firsts_of}
use Rattle.awk_nulls.specs.Singletons.{singletons_of}

abbrev int64 : DataType
int64 = leaf I64

abbrev list_value : List Value → Value
list_value vs = list (values_from vs)

abbrev ints : List ℤ → List Value
ints zs = map (λ z. int z) zs

abbrev ints_list : List ℤ → Value
ints_list zs = list_value (ints zs)

-- [[1,2,3],[],[4,5]]
abbrev jagged : Datum
jagged =
    arr (var int64)
    (ints_list (pos 1 ∷ pos 2 ∷ pos 3 ∷ []) ∷ ints_list [] ∷ ints_list (pos 4 ∷ pos 5 ∷ []) ∷ [])

-- [1,null,3]
abbrev some : Datum
some = arr (opt int64) (int (pos 1) ∷ null ∷ int (pos 3) ∷ [])

-- [[1,null],null,[3]]
abbrev holes : Datum
holes =
    arr (opt (var (opt int64)))
    (list_value (int (pos 1) ∷ null ∷ []) ∷ null ∷ ints_list (pos 3 ∷ []) ∷ [])

-- [true,false,true]
abbrev truths : Datum
truths = arr (leaf Bool) (truth true ∷ truth false ∷ truth true ∷ [])

-- ---- which items are null

is_none_0 : is_none_of (pos 0) holes
    ≡ Ok (arr (leaf Bool) (truth false ∷ truth true ∷ truth false ∷ []))
is_none_0 = refl

-- a null list stays null
is_none_1 : is_none_of (pos 1) holes
    ≡ Ok (arr (opt (var (leaf Bool)))
    (list_value (truth false ∷ truth true ∷ []) ∷ null ∷ list_value (truth false ∷ []) ∷ []))
is_none_1 = refl

is_none_keeps_class : is_none_of (pos 1)
    (arr (reg 2 (opt int64)) (list_value (null ∷ int (pos 7) ∷ []) ∷ []))
    ≡ Ok (arr (reg 2 (leaf Bool)) (list_value (truth true ∷ truth false ∷ []) ∷ []))
is_none_keeps_class = refl

is_none_of_lists : is_none_of (pos 0) jagged
    ≡ Ok (arr (leaf Bool) (truth false ∷ truth false ∷ truth false ∷ []))
is_none_of_lists = refl

is_none_2 : is_none_of (pos 2) holes ≡ Err Axis
is_none_2 = refl

is_none_of_unknown : is_none_of (pos 1) (arr unknown []) ≡ Ok (arr (var (leaf Bool)) [])
is_none_of_unknown = refl

-- ---- items that are not null

drop_none_0 : drop_none_of (pos 0) holes
    ≡ Ok (arr (var (opt int64))
    (list_value (int (pos 1) ∷ null ∷ []) ∷ ints_list (pos 3 ∷ []) ∷ []))
drop_none_0 = refl

drop_none_1 : drop_none_of (pos 1) holes
    ≡ Ok (arr (opt (var int64)) (ints_list (pos 1 ∷ []) ∷ null ∷ ints_list (pos 3 ∷ []) ∷ []))
drop_none_1 = refl

drop_none_gives_var : drop_none_of (pos 1) (arr (reg 1 int64) (ints_list (pos 1 ∷ []) ∷ []))
    ≡ Ok (arr (var int64) (ints_list (pos 1 ∷ []) ∷ []))
drop_none_gives_var = refl

-- ---- first items

firsts_1 : firsts_of (pos 1) jagged ≡ Ok (arr (opt int64) (int (pos 1) ∷ null ∷ int (pos 4) ∷ []))
firsts_1 = refl

-- a list that is the first item is an array
firsts_0 : firsts_of (pos 0) jagged
    ≡ Ok (arr int64 (ints (pos 1 ∷ pos 2 ∷ pos 3 ∷ [])))
firsts_0 = refl

firsts_of_none : firsts_of (pos 0) (arr int64 []) ≡ Ok (one (opt int64) null)
firsts_of_none = refl

-- a null list and a list without items are both null
firsts_of_null : firsts_of (pos 1) holes
    ≡ Ok (arr (opt int64) (int (pos 1) ∷ null ∷ int (pos 3) ∷ []))
firsts_of_null = refl

firsts_negative : firsts_of (negsuc 0) jagged ≡ Err Axis
firsts_negative = refl

firsts_of_unknown : firsts_of (pos 1) (arr unknown []) ≡ Ok (arr (opt unknown) [])
firsts_of_unknown = refl

-- ---- lists of at most one item

singletons_0 : singletons_of (pos 0) some
    ≡ Ok (arr (var int64) (ints_list (pos 1 ∷ []) ∷ ints_list [] ∷ ints_list (pos 3 ∷ []) ∷ []))
singletons_0 = refl

singletons_keeps_class : singletons_of (pos 1)
    (arr (reg 2 (opt int64)) (list_value (null ∷ int (pos 7) ∷ []) ∷ []))
    ≡ Ok (arr (reg 2 (var int64)) (list_value (ints_list [] ∷ ints_list (pos 7 ∷ []) ∷ []) ∷ []))
singletons_keeps_class = refl

singletons_of_lists : singletons_of (pos 0) (arr (var int64) (ints_list [] ∷ []))
    ≡ Ok (arr (var (var int64)) (list_value (ints_list [] ∷ []) ∷ []))
singletons_of_lists = refl
