-- Worked examples of the laws of leaves, each checked by computing.
use Rattle.std.specs.Prelude.{◌≡◌, refl, pos, negsuc, true, false, List, [], ◌∷◌, Ok, Err}
use Rattle.awk_types.specs.Value.{Value, int, truth, null}
use Rattle.awk_types.specs.declared.fault.Fault.TheVariants.{Overflow}
use Rattle.awk_types.specs.declared.primitive.Primitive.TheVariants.{I8, I64, U8}
use Rattle.awk_types.specs.declared.primitive.Primitive.TheVariants.{Bool as Truths}
use Rattle.awk_kernels.specs.declared.operation.Arith.TheVariants.{Add, Mul, FloorDiv, Rem}
use Rattle.awk_kernels.specs.declared.operation.Compare.TheVariants.{Lt, Ge}
use Rattle.awk_leaves.specs.Values.{binary_at, unary_at}
use Rattle.awk_leaves.specs.Values.{binary_values, unary_values, choice_values}
use Rattle.awk_leaves.specs.declared.leaf_type.LeafType.TheVariants.{Of}
use Rattle.awk_leaves.specs.declared.operation.Binary.TheVariants.{Calculate, Test}
use Rattle.awk_leaves.specs.declared.operation.Unary.TheVariants.{Not, Negate}
use Rattle.awk_number_laws.specs.Leaves.{on_result}

-- [1,null]
abbrev optional : List Value
optional = int (pos 1) ∷ null ∷ []

one_choice : choice_values (Of Truths) (Of I64) (Of I64) (truth true ∷ truth false ∷ [])
    optional optional ≡ Ok optional
one_choice = refl

-- [2,null]
abbrev others : List Value
others = int (pos 2) ∷ null ∷ []

not_less : on_result (unary_values Not (Of Truths))
    (binary_values (Test Lt) (Of I64) (Of I64) optional others) ≡ Ok (truth false ∷ null ∷ [])
not_less = refl

at_least : binary_values (Test Ge) (Of I64) (Of I64) optional others
    ≡ Ok (truth false ∷ null ∷ [])
at_least = refl

-- -7 is -4 times 2, and 1
quotient : binary_at (Calculate FloorDiv) I8 (int (negsuc 6)) (int (pos 2)) ≡ Ok (int (negsuc 3))
quotient = refl

remainder : binary_at (Calculate Rem) I8 (int (negsuc 6)) (int (pos 2)) ≡ Ok (int (pos 1))
remainder = refl

-- the product of a quotient and its divisor may be none of int8: -128 is -43 times 3, and 1
least_quotient : binary_at (Calculate FloorDiv) I8 (int (negsuc 127)) (int (pos 3))
    ≡ Ok (int (negsuc 42))
least_quotient = refl

product_past : binary_at (Calculate Mul) I8 (int (negsuc 42)) (int (pos 3)) ≡ Err Overflow
product_past = refl

minus : unary_at Negate I8 (int (pos 5)) ≡ Ok (int (negsuc 4))
minus = refl

minus_minus : unary_at Negate I8 (int (negsuc 4)) ≡ Ok (int (pos 5))
minus_minus = refl

-- minus the least number of int8 is none of it, and minus 5 none of uint8
minus_least : unary_at Negate I8 (int (negsuc 127)) ≡ Err Overflow
minus_least = refl

minus_unsigned : unary_at Negate U8 (int (pos 5)) ≡ Err Overflow
minus_unsigned = refl

-- products: 64 by 2 is past int8, and 2 by 64 too
product_past_turned : binary_at (Calculate Mul) I8 (int (pos 2)) (int (pos 64)) ≡ Err Overflow
product_past_turned = refl

product_past_first : binary_at (Calculate Mul) I8 (int (pos 64)) (int (pos 2)) ≡ Err Overflow
product_past_first = refl

sum_past : binary_at (Calculate Add) I8 (int (pos 127)) (int (pos 1)) ≡ Err Overflow
sum_past = refl

sum_past_turned : binary_at (Calculate Add) I8 (int (pos 1)) (int (pos 127)) ≡ Err Overflow
sum_past_turned = refl
