-- Worked examples of the leaf table.
use Rattle.std.specs.Prelude.{◌≡◌, refl, pos, negsuc, true, false, List, [], ◌∷◌}
use Rattle.std.specs.Prelude.{Ok, Err}
use Rattle.awk_types.specs.declared.primitive.Primitive.TheVariants.{I8, I64, U8, U64}
use Rattle.awk_types.specs.declared.primitive.Primitive.TheVariants.{Bool as Truths}
use Rattle.awk_types.specs.declared.fault.Fault.TheVariants.{Overflow, Zero, WrongType}
use Rattle.awk_types.specs.Value.{Value, int, truth, null}
use Rattle.awk_kernels.specs.declared.operation.Arith.TheVariants.{Add, FloorDiv, Rem}
use Rattle.awk_kernels.specs.declared.operation.Compare.TheVariants.{Lt}
use Rattle.awk_leaves.specs.declared.leaf_type.LeafType.TheVariants.{Of, Unknown, Literal}
use Rattle.awk_leaves.specs.declared.operation.Binary.TheVariants.{Calculate, Test, Join}
use Rattle.awk_leaves.specs.declared.operation.Logic.TheVariants.{And, Xor}
use Rattle.awk_leaves.specs.declared.operation.Unary.TheVariants.{Not, Negate, Absolute, Cast}
use Rattle.awk_leaves.specs.Table.{binary_judged, choice_judged}
use Rattle.awk_leaves.specs.Values.{binary_values, unary_values, choice_values}

abbrev optional_numbers : List Value
optional_numbers = int (pos 1) ∷ null ∷ int (pos 3) ∷ []

abbrev negative_numbers : List Value
negative_numbers = int (negsuc 0) ∷ null ∷ int (negsuc 2) ∷ []

abbrev truths : List Value
truths = truth true ∷ truth false ∷ truth true ∷ []

abbrev sevens : List Value
sevens = int (negsuc 6) ∷ int (pos 7) ∷ []

abbrev twos : List Value
twos = int (pos 2) ∷ int (negsuc 1) ∷ []

-- ---- overflow and literals

sum_past_int8 : binary_values (Calculate Add) (Of I8) (Of I8) (int (pos 127) ∷ [])
    (int (pos 1) ∷ []) ≡ Err Overflow
sum_past_int8 = refl

-- also where no number is added
literal_past_int8 : binary_values (Calculate Add) (Of I8) (Literal (pos 300)) [] [] ≡ Err Overflow
literal_past_int8 = refl

literal_compared_exactly : binary_values (Test Lt) (Of I8) (Literal (pos 300))
    (int (pos 127) ∷ []) (int (pos 300) ∷ []) ≡ Ok (truth true ∷ [])
literal_compared_exactly = refl

literals_compared : binary_judged (Test Lt) (Literal (pos 1)) (Literal (pos 9223372036854775808))
    ≡ Err Overflow
literals_compared = refl

literal_beside_unknown : binary_judged (Test Lt) Unknown (Literal (pos 9223372036854775808))
    ≡ Ok Truths
literal_beside_unknown = refl

two_literals : binary_values (Calculate Add) (Literal (pos 1)) (Literal (pos 2)) (int (pos 1) ∷ [])
    (int (pos 2) ∷ []) ≡ Ok (int (pos 3) ∷ [])
two_literals = refl

-- ---- quotients and remainders

quotients : binary_values (Calculate FloorDiv) (Of I64) (Of I64) sevens twos
    ≡ Ok (int (negsuc 3) ∷ int (negsuc 3) ∷ [])
quotients = refl

remainders : binary_values (Calculate Rem) (Of I64) (Of I64) sevens twos
    ≡ Ok (int (pos 1) ∷ int (negsuc 0) ∷ [])
remainders = refl

-- the fault of the first leaf is told
overflow_before_zero : binary_values (Calculate FloorDiv) (Of I64) (Of I64)
    (int (negsuc 9223372036854775807) ∷ int (pos 1) ∷ []) (int (negsuc 0) ∷ int (pos 0) ∷ [])
    ≡ Err Overflow
overflow_before_zero = refl

remainder_by_zero : binary_values (Calculate Rem) (Of I64) (Literal (pos 0)) optional_numbers
    (int (pos 0) ∷ int (pos 0) ∷ int (pos 0) ∷ []) ≡ Err Zero
remainder_by_zero = refl

-- a null divides by nothing
null_by_zero : binary_values (Calculate Rem) (Of I64) (Literal (pos 0)) (null ∷ [])
    (int (pos 0) ∷ []) ≡ Ok (null ∷ [])
null_by_zero = refl

-- ---- types

number_and_truth : binary_judged (Calculate Add) (Of I64) (Of Truths) ≡ Err WrongType
number_and_truth = refl

-- signed numbers and uint64 do not promote, yet they are compared
sum_with_uint64 : binary_judged (Calculate Add) (Of I8) (Of U64) ≡ Err WrongType
sum_with_uint64 = refl

compared_with_uint64 : binary_values (Test Lt) (Of I8) (Of U64) (int (negsuc 0) ∷ [])
    (int (pos 18446744073709551615) ∷ []) ≡ Ok (truth true ∷ [])
compared_with_uint64 = refl

-- beside truth values a literal is int64
truth_and_literal : binary_judged (Test Lt) (Of Truths) (Literal (pos 1)) ≡ Err WrongType
truth_and_literal = refl

unknown_twice : binary_judged (Calculate Add) Unknown Unknown ≡ Ok I64
unknown_twice = refl

literal_as_condition : choice_judged (Literal (pos 1)) (Of I64) (Of I64) ≡ Err WrongType
literal_as_condition = refl

-- ---- comparisons, truth values, signs, casts and choices

below_a_literal : binary_values (Test Lt) (Of I64) (Literal (pos 3))
    (int (pos 2) ∷ int (pos 3) ∷ []) (int (pos 3) ∷ int (pos 3) ∷ [])
    ≡ Ok (truth true ∷ truth false ∷ [])
below_a_literal = refl

and_not : binary_values (Join And) (Of Truths) (Of Truths) truths
    (truth false ∷ truth true ∷ truth false ∷ [])
    ≡ Ok (truth false ∷ truth false ∷ truth false ∷ [])
and_not = refl

one_of_two : binary_values (Join Xor) (Of Truths) (Of Truths) truths
    (truth false ∷ truth false ∷ truth true ∷ [])
    ≡ Ok (truth true ∷ truth false ∷ truth false ∷ [])
one_of_two = refl

denied : unary_values Not (Of Truths) truths ≡ Ok (truth false ∷ truth true ∷ truth false ∷ [])
denied = refl

negated : unary_values Negate (Of I64) optional_numbers ≡ Ok negative_numbers
negated = refl

absolute : unary_values Absolute (Of I64) negative_numbers ≡ Ok optional_numbers
absolute = refl

cast_to_uint8 : unary_values (Cast U8) (Of I64) optional_numbers ≡ Ok optional_numbers
cast_to_uint8 = refl

cast_past_uint8 : unary_values (Cast U8) (Of I64) negative_numbers ≡ Err Overflow
cast_past_uint8 = refl

two_is_true : unary_values (Cast Truths) (Of I64) (int (pos 2) ∷ []) ≡ Ok (truth true ∷ [])
two_is_true = refl

chosen_or_zero : choice_values (Of Truths) (Of I64) (Literal (pos 0)) truths optional_numbers
    (int (pos 0) ∷ int (pos 0) ∷ int (pos 0) ∷ [])
    ≡ Ok (int (pos 1) ∷ int (pos 0) ∷ int (pos 3) ∷ [])
chosen_or_zero = refl
