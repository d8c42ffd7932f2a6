-- The leaf table: the primitive of each operation, or what its types and literals have wrong.
use Rattle.std.specs.Prelude.{Bool, true, false, ◌&&◌, ◌||◌, Option, Some, None, Result, Ok, Err}
use Rattle.awk_types.specs.declared.primitive.Primitive.{Primitive}
use Rattle.awk_types.specs.declared.fault.Fault.{Fault}
use Rattle.awk_types.specs.declared.fault.Fault.TheVariants.{WrongType, Overflow}
use Rattle.awk_leaves.specs.declared.leaf_type.LeafType.{LeafType}
use Rattle.awk_leaves.specs.declared.leaf_type.LeafType.TheVariants.{Unknown}
use Rattle.awk_leaves.specs.declared.operation.Binary.{Binary}
use Rattle.awk_leaves.specs.declared.operation.Binary.TheVariants.{Calculate, Test, Join}
use Rattle.awk_leaves.specs.declared.operation.Unary.{Unary}
use Rattle.awk_leaves.specs.declared.operation.Unary.TheVariants.{Not, Negate, Absolute, Cast}
use Rattle.awk_leaves.specs.LeafTypes.{overflows, is_literal, number_type, choice_type}
use Rattle.awk_leaves.specs.LeafTypes.{comparison_type, truth_type, whole_type}

-- a primitive, unless there is none or a literal does not fit
abbrev pub judged : Option Primitive → Bool → Result Primitive Fault
judged None past = Err WrongType
judged (Some p) true = Err Overflow
judged (Some p) false = Ok p

abbrev pub one_overflows : LeafType → LeafType → Bool
one_overflows a b = overflows a b || overflows b a

-- a literal that is compared with what is no literal need not fit: the comparison is exact
abbrev pub literals_overflow : LeafType → LeafType → Bool
literals_overflow a b = is_literal a && is_literal b && one_overflows a b

-- ---- of two leaves

abbrev pub joined_type : LeafType → LeafType → Option Primitive
joined_type a b = behind (truth_type a) (truth_type b)
  where
    behind : Option Primitive → Option Primitive → Option Primitive
    behind None q = None
    behind (Some p) q = q

abbrev pub binary_type : Binary → LeafType → LeafType → Option Primitive
binary_type (Calculate op) a b = number_type a b
binary_type (Test how) a b = comparison_type a b
binary_type (Join op) a b = joined_type a b

abbrev pub literal_overflows : Binary → LeafType → LeafType → Bool
literal_overflows (Calculate op) a b = one_overflows a b
literal_overflows (Test how) a b = literals_overflow a b
literal_overflows (Join op) a b = false

abbrev pub binary_judged : Binary → LeafType → LeafType → Result Primitive Fault
binary_judged op a b = judged (binary_type op a b) (literal_overflows op a b)

-- ---- of one leaf

abbrev pub unary_type : Unary → LeafType → Option Primitive
unary_type Not a = truth_type a
unary_type Negate a = whole_type a
unary_type Absolute a = whole_type a
unary_type (Cast to) a = Some to

abbrev pub unary_judged : Unary → LeafType → Result Primitive Fault
unary_judged op a = judged (unary_type op a) (overflows a Unknown)

-- ---- of a choice between two leaves by a third

abbrev pub chosen_judged : Option Primitive → LeafType → LeafType → Result Primitive Fault
chosen_judged None a b = Err WrongType
chosen_judged (Some p) a b = judged (choice_type a b) (one_overflows a b)

abbrev pub choice_judged : LeafType → LeafType → LeafType → Result Primitive Fault
choice_judged c a b = chosen_judged (truth_type c) a b
