-- Worked examples of operations on one and two operands, each checked by computing.
use Rattle.std.specs.Prelude.{◌≡◌, refl, ℕ, List, [], ◌∷◌, pos, negsuc, true, false, Ok, Err}
use Rattle.awk_types.specs.DataType.{DataType, leaf, var, reg, tup, opt, types_from}
use Rattle.awk_types.specs.Datum.{Datum, arr, one}
use Rattle.awk_types.specs.Value.{Value, int, truth, null, list, values_from}
use Rattle.awk_types.specs.declared.fault.Fault.TheVariants.{WrongType, Overflow, Zero, Lengths}
use Rattle.awk_types.specs.declared.primitive.Primitive.TheVariants.{I8, I64, Bool}
use Rattle.awk_kernels.specs.declared.operation.Arith.TheVariants.{Add, FloorDiv, Rem}
use Rattle.awk_kernels.specs.declared.operation.Compare.TheVariants.{Lt}
use Rattle.awk_layout.specs.Filler.{literal, datum}
use Rattle.awk_leaves.specs.declared.operation.Binary.TheVariants.{Calculate, Test, Join}
use Rattle.awk_leaves.specs.declared.operation.Logic.TheVariants.{And}
use Rattle.awk_leaves.specs.declared.operation.Unary.TheVariants.{Not, Negate}
use Rattle.awk_arith.specs.Binary.{binary_of}
use Rattle.awk_arith.specs.Unary.{unary_of}

abbrev int64 : DataType
int64 = leaf I64

abbrev n : ℕ → Value
n k = int (pos k)

abbrev lists : List Value → Value
lists vs = list (values_from vs)

-- [[1,2],[3]]
abbrev jagged : Datum
jagged = arr (var int64) (lists (n 1 ∷ n 2 ∷ []) ∷ lists (n 3 ∷ []) ∷ [])

-- [1,null,3]
abbrev optional : Datum
optional = arr (opt int64) (n 1 ∷ null ∷ n 3 ∷ [])

abbrev truths : Datum
truths = arr (leaf Bool) (truth true ∷ truth false ∷ truth true ∷ [])

-- [127] of int8, and no items of it
abbrev greatest_int8 : Datum
greatest_int8 = arr (leaf I8) (n 127 ∷ [])

abbrev no_int8 : Datum
no_int8 = arr (leaf I8) []

-- a number stands beside each item of its list
number_a_list : binary_of (Calculate Add) (datum jagged) (datum (arr int64 (n 10 ∷ n 20 ∷ [])))
    ≡ Ok (arr (var int64) (lists (n 11 ∷ n 12 ∷ []) ∷ lists (n 23 ∷ []) ∷ []))
number_a_list = refl

unequal_arrays : binary_of (Calculate Add) (datum jagged)
    (datum (arr int64 (n 1 ∷ n 2 ∷ n 3 ∷ []))) ≡ Err Lengths
unequal_arrays = refl

sum_past_int8 : binary_of (Calculate Add) (datum greatest_int8) (datum (arr (leaf I8) (n 1 ∷ [])))
    ≡ Err Overflow
sum_past_int8 = refl

literal_past_int8 : binary_of (Calculate Add) (datum greatest_int8) (literal (pos 300))
    ≡ Err Overflow
literal_past_int8 = refl

-- also where no number is added
literal_beside_none : binary_of (Calculate Add) (datum no_int8) (literal (pos 300)) ≡ Err Overflow
literal_beside_none = refl

-- a literal that does not fit is told before lists that are unequally long, and a type before it
literal_first : binary_of (Calculate Add) (literal (pos 1)) (literal (pos 9223372036854775808))
    ≡ Err Overflow
literal_first = refl

type_first : binary_of (Calculate Add) (literal (pos 300))
    (datum (arr (tup (types_from [])) [])) ≡ Err WrongType
type_first = refl

compared_exactly : binary_of (Test Lt) (datum greatest_int8) (literal (pos 300))
    ≡ Ok (arr (leaf Bool) (truth true ∷ []))
compared_exactly = refl

two_literals : binary_of (Calculate Add) (literal (pos 1)) (literal (pos 2))
    ≡ Ok (one int64 (n 3))
two_literals = refl

-- lists that are unequally long are told before a divisor of 0
lengths_before_zero : binary_of (Calculate Rem) (datum jagged)
    (datum (arr int64 (n 0 ∷ n 0 ∷ n 0 ∷ []))) ≡ Err Lengths
lengths_before_zero = refl

remainder_by_zero : binary_of (Calculate Rem) (datum optional) (literal (pos 0)) ≡ Err Zero
remainder_by_zero = refl

-- a null divides by nothing
null_by_zero : binary_of (Calculate FloorDiv) (datum (arr (opt int64) (null ∷ [])))
    (literal (pos 0)) ≡ Ok (arr (opt int64) (null ∷ []))
null_by_zero = refl

-- of the first leaf that has a fault
overflow_before_zero : binary_of (Calculate FloorDiv)
    (datum (arr int64 (int (negsuc 9223372036854775807) ∷ n 1 ∷ [])))
    (datum (arr int64 (int (negsuc 0) ∷ n 0 ∷ []))) ≡ Err Overflow
overflow_before_zero = refl

number_and_truth : binary_of (Calculate Add) (datum optional) (datum truths) ≡ Err WrongType
number_and_truth = refl

and_itself : binary_of (Join And) (datum truths) (datum (arr (opt (leaf Bool))
    (truth false ∷ truth true ∷ null ∷ [])))
    ≡ Ok (arr (opt (leaf Bool)) (truth false ∷ truth false ∷ null ∷ []))
and_itself = refl

-- lists of size 1 are stretched
stretched : binary_of (Calculate Add) (datum (arr (reg 1 int64) (lists (n 10 ∷ []) ∷ [])))
    (datum (arr (var int64) (lists (n 1 ∷ n 2 ∷ []) ∷ [])))
    ≡ Ok (arr (var int64) (lists (n 11 ∷ n 12 ∷ []) ∷ []))
stretched = refl

-- ---- one operand

negated : unary_of Negate optional
    ≡ Ok (arr (opt int64) (int (negsuc 0) ∷ null ∷ int (negsuc 2) ∷ []))
negated = refl

-- lists keep their class, and a single value is one
negated_lists : unary_of Negate (one (reg 2 int64) (lists (n 1 ∷ n 2 ∷ [])))
    ≡ Ok (one (reg 2 int64) (lists (int (negsuc 0) ∷ int (negsuc 1) ∷ [])))
negated_lists = refl

denied : unary_of Not truths
    ≡ Ok (arr (leaf Bool) (truth false ∷ truth true ∷ truth false ∷ []))
denied = refl

denied_number : unary_of Not optional ≡ Err WrongType
denied_number = refl
