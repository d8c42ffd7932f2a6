-- Worked examples of choices, each checked by computing.
use Rattle.std.specs.Prelude.{◌≡◌, refl, ℕ, List, [], ◌∷◌, pos, true, false, Ok, Err}
use Rattle.awk_types.specs.DataType.{DataType, unknown, leaf, var, tup, opt, types_from}
use Rattle.awk_types.specs.Datum.{Datum, arr, one}
use Rattle.awk_types.specs.Value.{Value, int, truth, null, list, row, values_from}
use Rattle.awk_types.specs.declared.fault.Fault.TheVariants.{WrongType, Overflow, Lengths}
use Rattle.awk_types.specs.declared.primitive.Primitive.TheVariants.{I8, I16, I64, U8, Bool}
use Rattle.awk_layout.specs.Filler.{literal, datum}
use Rattle.awk_choose.specs.Choice.{choose_of}

abbrev int64 : DataType
int64 = leaf I64

abbrev n : ℕ → Value
n k = int (pos k)

abbrev lists : List Value → Value
lists vs = list (values_from vs)

-- [1,null,3]
abbrev optional : Datum
optional = arr (opt int64) (n 1 ∷ null ∷ n 3 ∷ [])

-- [true,false,true]
abbrev truths : Datum
truths = arr (leaf Bool) (truth true ∷ truth false ∷ truth true ∷ [])

chosen_or_zero : choose_of truths (datum optional) (literal (pos 0))
    ≡ Ok (arr (opt int64) (n 1 ∷ n 0 ∷ n 3 ∷ []))
chosen_or_zero = refl

-- a null condition gives null, and the chosen item may be null
null_condition : choose_of (arr (opt (leaf Bool)) (null ∷ truth true ∷ truth false ∷ []))
    (datum optional) (literal (pos 7)) ≡ Ok (arr (opt int64) (null ∷ null ∷ n 7 ∷ []))
null_condition = refl

-- a null list gives null, whatever the condition, and a single number stands at each place
null_lists : choose_of truths
    (datum (arr (opt (var (leaf I8))) (lists (n 1 ∷ n 2 ∷ []) ∷ null ∷ lists [] ∷ [])))
    (datum (one (leaf U8) (n 7)))
    ≡ Ok (arr (opt (var (leaf I16))) (lists (n 1 ∷ n 2 ∷ []) ∷ null ∷ lists [] ∷ []))
null_lists = refl

-- of single values a single value
single_value : choose_of (one (leaf Bool) (truth false)) (literal (pos 1)) (literal (pos 2))
    ≡ Ok (one int64 (n 2))
single_value = refl

-- an unknown condition is of truth values
no_items : choose_of (arr unknown []) (literal (pos 1)) (datum (arr (leaf U8) []))
    ≡ Ok (arr (leaf U8) [])
no_items = refl

number_as_condition : choose_of optional (datum optional) (datum optional) ≡ Err WrongType
number_as_condition = refl

truth_beside_number : choose_of truths (datum truths) (literal (pos 0)) ≡ Err WrongType
truth_beside_number = refl

row_at_an_end : choose_of truths (datum (one (tup (types_from [])) (row (values_from []))))
    (literal (pos 300)) ≡ Err WrongType
row_at_an_end = refl

literal_past : choose_of truths (datum (arr (leaf U8) [])) (literal (pos 300)) ≡ Err Overflow
literal_past = refl

unequal : choose_of truths (datum (arr int64 (n 1 ∷ []))) (literal (pos 0)) ≡ Err Lengths
unequal = refl
