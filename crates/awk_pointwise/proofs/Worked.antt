-- Worked examples of sides and of operations on them.
use Rattle.std.specs.Prelude.{◌≡◌, refl, pos, negsuc, true, false, [], ◌∷◌, Ok, Err}
use Rattle.awk_types.specs.Value.{int, truth}
use Rattle.awk_types.specs.declared.fault.Fault.TheVariants.{Overflow, Zero}
use Rattle.awk_types.specs.declared.primitive.Primitive.TheVariants.{U8, I8, I64}
use Rattle.awk_types.specs.declared.primitive.Primitive.TheVariants.{Bool as Truths}
use Rattle.awk_lanes.specs.Words.{column}
use Rattle.awk_lanes.specs.declared.kind.Kind.TheVariants as Kind
use Rattle.awk_kernels.specs.declared.operation.Arith.TheVariants.{Add, FloorDiv}
use Rattle.awk_leaves.specs.Values.{binary_values, unary_values}
use Rattle.awk_leaves.specs.declared.operation.Unary.TheVariants.{Negate, Cast}
use Rattle.awk_leaves.specs.declared.operation.Binary.TheVariants.{Calculate}
use Rattle.awk_pointwise.specs.Sides.{lane_values, leaf_type, side_values}
use Rattle.awk_pointwise.specs.declared.sides.Side.TheVariants.{Number, Literal}

-- a truth value is true where its byte is not 0
bytes_are_truths : lane_values (column Kind.Bool (pos 0 ∷ pos 1 ∷ pos 2 ∷ []))
    ≡ truth false ∷ truth true ∷ truth true ∷ []
bytes_are_truths = refl

-- one number stands at each place
one_number : side_values 2 (Number U8 (pos 7)) ≡ int (pos 7) ∷ int (pos 7) ∷ []
one_number = refl

one_truth : side_values 2 (Number Truths (pos 1)) ≡ truth true ∷ truth true ∷ []
one_truth = refl

-- uint8 255 and a literal 1
past_uint8 : binary_values (Calculate Add) (leaf_type (Number U8 (pos 255)))
    (leaf_type (Literal (pos 1))) (side_values 1 (Number U8 (pos 255)))
    (side_values 1 (Literal (pos 1))) ≡ Err Overflow
past_uint8 = refl

-- no number of int8 is the other of -128
past_int8 : unary_values Negate (leaf_type (Number I8 (negsuc 127)))
    (side_values 1 (Number I8 (negsuc 127))) ≡ Err Overflow
past_int8 = refl

truths_as_numbers : unary_values (Cast I8) (leaf_type (Number Truths (pos 1)))
    (side_values 2 (Number Truths (pos 1))) ≡ Ok (int (pos 1) ∷ int (pos 1) ∷ [])
truths_as_numbers = refl

-- the first place that has no result is told
zero_first : binary_values (Calculate FloorDiv) (leaf_type (Number I64 (pos 1)))
    (leaf_type (Number I64 (pos 0))) (int (pos 1) ∷ int (negsuc 9223372036854775807) ∷ [])
    (int (pos 0) ∷ int (negsuc 0) ∷ []) ≡ Err Zero
zero_first = refl
