-- Worked examples of casts, each checked by computing.
use Rattle.std.specs.Prelude.{◌≡◌, refl, ℕ, List, [], ◌∷◌, pos, negsuc, true, false, Ok, Err}
use Rattle.awk_types.specs.DataType.{DataType, unknown, leaf, var, reg, tup, opt}
use Rattle.awk_types.specs.DataType.{uni, types_from}
use Rattle.awk_types.specs.Datum.{Datum, arr, one}
use Rattle.awk_types.specs.Value.{Value, int, truth, null, list, row, alt, values_from}
use Rattle.awk_types.specs.declared.fault.Fault.TheVariants.{Overflow}
use Rattle.awk_types.specs.declared.primitive.Primitive.TheVariants.{I8, I64, U8, U64}
use Rattle.awk_types.specs.declared.primitive.Primitive.TheVariants.{Bool as Truths}
use Rattle.awk_cast.specs.Cast.{cast_of}

abbrev int64 : DataType
int64 = leaf I64

abbrev n : ℕ → Value
n k = int (pos k)

-- [1,null,3]
abbrev optional : Datum
optional = arr (opt int64) (n 1 ∷ null ∷ n 3 ∷ [])

to_uint8 : cast_of U8 optional ≡ Ok (arr (opt (leaf U8)) (n 1 ∷ null ∷ n 3 ∷ []))
to_uint8 = refl

-- a number is not wrapped
past_uint8 : cast_of U8 (arr (opt int64) (int (negsuc 0) ∷ null ∷ int (negsuc 2) ∷ []))
    ≡ Err Overflow
past_uint8 = refl

past_int8 : cast_of I8 (one int64 (n 128)) ≡ Err Overflow
past_int8 = refl

least_int8 : cast_of I8 (one int64 (int (negsuc 127))) ≡ Ok (one (leaf I8) (int (negsuc 127)))
least_int8 = refl

-- the greatest uint64 is no int64
past_int64 : cast_of I64 (one (leaf U64) (n 18446744073709551615)) ≡ Err Overflow
past_int64 = refl

-- 2 is true, and so is each number but 0
to_truths : cast_of Truths (arr int64 (n 2 ∷ n 0 ∷ int (negsuc 0) ∷ n 300 ∷ []))
    ≡ Ok (arr (leaf Truths) (truth true ∷ truth false ∷ truth true ∷ truth true ∷ []))
to_truths = refl

-- a truth value is 0 or 1
from_truths : cast_of I64 (arr (leaf Truths) (truth true ∷ truth false ∷ []))
    ≡ Ok (arr int64 (n 1 ∷ n 0 ∷ []))
from_truths = refl

-- unknown stays, and so do lists and their lengths
unknown_stays : cast_of U8 (arr (reg 0 unknown) (list (values_from []) ∷ []))
    ≡ Ok (arr (reg 0 unknown) (list (values_from []) ∷ []))
unknown_stays = refl

abbrev lists : List Value
lists = list (values_from (n 7 ∷ n 8 ∷ [])) ∷ list (values_from []) ∷ []

in_lists : cast_of U8 (arr (var int64) lists) ≡ Ok (arr (var (leaf U8)) lists)
in_lists = refl

-- rows and alternatives are gone through, and alternatives that become alike stay apart
abbrev mixed : DataType
mixed = uni (types_from (int64 ∷ leaf Truths ∷ tup (types_from (leaf U8 ∷ opt int64 ∷ [])) ∷ []))

in_parts : cast_of Truths (arr mixed (alt 0 (n 2) ∷ alt 1 (truth false)
    ∷ alt 2 (row (values_from (n 0 ∷ null ∷ []))) ∷ []))
    ≡ Ok (arr (uni (types_from (leaf Truths ∷ leaf Truths
    ∷ tup (types_from (leaf Truths ∷ opt (leaf Truths) ∷ [])) ∷ [])))
    (alt 0 (truth true) ∷ alt 1 (truth false)
    ∷ alt 2 (row (values_from (truth false ∷ null ∷ []))) ∷ []))
in_parts = refl

past_in_a_row : cast_of I8 (arr mixed (alt 0 (n 2)
    ∷ alt 2 (row (values_from (n 200 ∷ null ∷ []))) ∷ [])) ≡ Err Overflow
past_in_a_row = refl
