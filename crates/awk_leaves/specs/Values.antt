-- What each operation gives at one leaf, and at leaves in order.
use Rattle.std.specs.Prelude.{ℤ, pos, neg_ℤ, unsigned_abs, Bool, not, ◌&&◌, ◌||◌}
use Rattle.std.specs.Prelude.{if◌then◌else◌, List, [], ◌∷◌, map, Result, Ok, Err}
use Rattle.std.specs.Ordering.{int_eq}
use Rattle.std.specs.Simd.Lanes.{zip2}
use Rattle.awk_types.specs.Parts.{number_of}
use Rattle.awk_types.specs.declared.primitive.Primitive.{Primitive}
use Rattle.awk_types.specs.declared.primitive.Primitive.TheVariants.{Bool as Truths}
use Rattle.awk_types.specs.declared.fault.Fault.{Fault}
use Rattle.awk_types.specs.declared.fault.Fault.TheVariants as fault
use Rattle.awk_types.specs.Value.{Value, int, truth, null}
use Rattle.awk_types.specs.Has.{least_number, greatest_number}
use Rattle.awk_types.specs.Predicates.{is_null}
use Rattle.awk_kernels.specs.declared.operation.Why.{Why}
use Rattle.awk_kernels.specs.declared.operation.Why.TheVariants as why
use Rattle.awk_kernels.specs.Operations.{within, leaf, holds}
use Rattle.awk_leaves.specs.declared.leaf_type.LeafType.{LeafType}
use Rattle.awk_leaves.specs.declared.operation.Binary.{Binary}
use Rattle.awk_leaves.specs.declared.operation.Binary.TheVariants.{Calculate, Test, Join}
use Rattle.awk_leaves.specs.declared.operation.Logic.{Logic}
use Rattle.awk_leaves.specs.declared.operation.Logic.TheVariants.{And, Or, Xor}
use Rattle.awk_leaves.specs.declared.operation.Unary.{Unary}
use Rattle.awk_leaves.specs.declared.operation.Unary.TheVariants.{Not, Negate, Absolute, Cast}
use Rattle.awk_leaves.specs.Table.{binary_judged, unary_judged, choice_judged}

-- a number as a value of a primitive
abbrev pub value_in : Primitive → ℤ → Value
value_in Truths z = truth (not (int_eq z (pos 0)))
value_in p z = int z

abbrev pub fault_of : Why → Fault
fault_of why.Overflow = fault.Overflow
fault_of why.Zero = fault.Zero

-- a number, or the fault for which there is none
abbrev pub number_or_fault : Result ℤ Why → Result Value Fault
number_or_fault (Ok z) = Ok (int z)
number_or_fault (Err w) = Err (fault_of w)

-- a number that the primitive holds, or overflow
abbrev pub held_by : Primitive → ℤ → Result Value Fault
held_by p z = number_or_fault (within (least_number p) (greatest_number p) z)

abbrev pub joined : Logic → Bool → Bool → Bool
joined And a b = a && b
joined Or a b = a || b
joined Xor a b = if a then not b else b

-- ---- of numbers, a truth value as 0 or 1

abbrev pub is_nonzero : ℤ → Bool
is_nonzero z = not (int_eq z (pos 0))

-- of two numbers, in a primitive
abbrev pub binary_on : Binary → Primitive → ℤ → ℤ → Result Value Fault
binary_on (Calculate op) p a b = number_or_fault (leaf op (least_number p) (greatest_number p) a b)
binary_on (Test how) p a b = Ok (truth (holds how a b))
binary_on (Join op) p a b = Ok (truth (joined op (is_nonzero a) (is_nonzero b)))

-- of one number
abbrev pub unary_on : Unary → Primitive → ℤ → Result Value Fault
unary_on Not p a = Ok (truth (not (is_nonzero a)))
unary_on Negate p a = held_by p (neg_ℤ a)
unary_on Absolute p a = held_by p (pos (unsigned_abs a))
unary_on (Cast Truths) p a = Ok (truth (is_nonzero a))
unary_on (Cast to) p a = held_by to a

-- ---- at one leaf; a null gives null

abbrev pub binary_at : Binary → Primitive → Value → Value → Result Value Fault
binary_at op p x y =
    if is_null x || is_null y then Ok null else binary_on op p (number_of x) (number_of y)

abbrev pub unary_at : Unary → Primitive → Value → Result Value Fault
unary_at op p x = if is_null x then Ok null else unary_on op p (number_of x)

-- what is chosen, null or not; a condition that is null gives null
abbrev pub chosen_at : Value → Value → Value → Value
chosen_at c x y = if is_null c then null else if is_nonzero (number_of c) then x else y

-- ---- at leaves in order

-- all values, or the first fault
abbrev pub first_fault_or : Result Value Fault → Result (List Value) Fault
    → Result (List Value) Fault
first_fault_or (Ok v) (Ok vs) = Ok (v ∷ vs)
first_fault_or (Ok v) (Err f) = Err f
first_fault_or (Err f) rest = Err f

abbrev pub all_values : List (Result Value Fault) → Result (List Value) Fault
all_values [] = Ok []
all_values (r ∷ rs) = first_fault_or r (all_values rs)

-- what stands in a primitive, unless the types are refused
abbrev pub in_judged : Result Primitive Fault → (Primitive → Result (List Value) Fault)
    → Result (List Value) Fault
in_judged (Ok p) values = values p
in_judged (Err f) values = Err f

abbrev pub binary_values : Binary → LeafType → LeafType → List Value → List Value
    → Result (List Value) Fault
binary_values op a b xs ys =
    in_judged (binary_judged op a b) (λ p. all_values (zip2 (binary_at op p) xs ys))

abbrev pub unary_values : Unary → LeafType → List Value → Result (List Value) Fault
unary_values op a xs = in_judged (unary_judged op a) (λ p. all_values (map (unary_at op p) xs))

abbrev pub chosen_values : List Value → List Value → List Value → List Value
chosen_values cs xs ys = zip2 (λ choose y. choose y) (zip2 chosen_at cs xs) ys

abbrev pub choice_values : LeafType → LeafType → LeafType → List Value → List Value → List Value
    → Result (List Value) Fault
choice_values c a b cs xs ys =
    in_judged (choice_judged c a b) (λ p. Ok (chosen_values cs xs ys))
