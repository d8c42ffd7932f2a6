-- Values as numbers, and numbers at each place or the fault of the first place that has one.
use Rattle.std.specs.Prelude.{◌≡◌, ℕ, ℤ, pos, negsuc, ◌≤ℤ◌, true, false, List, [], ◌∷◌, map}
use Rattle.std.specs.Prelude.{Result, Ok, Err}
use Rattle.std.specs.Int.{from_bool, int_min}
use Rattle.std.specs.List.{AllByRecursion}
use Rattle.std.specs.Simd.Lanes.{zip2}
use Rattle.awk_types.specs.Has.{least_number, greatest_number, Holds}
use Rattle.awk_types.specs.Parts.{number_of}
use Rattle.awk_types.specs.Predicates.{is_null}
use Rattle.awk_primitives.specs.Promotion.{is_whole}
use Rattle.awk_types.specs.Value.{Value}
use Rattle.awk_types.specs.declared.fault.Fault.{Fault}
use Rattle.awk_types.specs.declared.primitive.Primitive.{Primitive}
use Rattle.awk_types.specs.declared.primitive.Primitive.TheVariants.{Bool as Truths}
use Rattle.awk_kernels.specs.declared.operation.Why.{Why}
use Rattle.awk_pointwise.specs.declared.words.Words.{Words}
use Rattle.awk_pointwise.specs.declared.words.Words.TheVariants.{Ints, Nats}
use Rattle.awk_lanes.specs.Numbers.{nat_of}
use Rattle.awk_lanes.specs.Words.{integers}
use Rattle.awk_kernels.specs.Kernels.{leaves}
use Rattle.awk_kernels.specs.declared.operation.Arith.{Arith}
use Rattle.awk_leaves.specs.Values.{fault_of, joined, is_nonzero}
use Rattle.awk_leaves.specs.declared.leaf_type.LeafType.{LeafType}
use Rattle.awk_leaves.specs.declared.leaf_type.LeafType.TheVariants as of
use Rattle.awk_leaves.specs.declared.operation.Binary.{Binary}
use Rattle.awk_leaves.specs.declared.operation.Binary.TheVariants.{Calculate, Test, Join}
use Rattle.awk_leaves.specs.declared.operation.Logic.{Logic}
use Rattle.awk_pointwise.specs.Sides.{IsLeafNumber}

abbrev pub word_numbers : Words → List ℤ
word_numbers (Ints v) = v.items
word_numbers (Nats v) = integers v.items

-- a number that leaves of a type have; those of unknown have none
abbrev pub IsTyped : LeafType → ℤ → Type 0
IsTyped (of.Of p) z = IsLeafNumber p z
IsTyped of.Unknown z = ⊥
IsTyped (of.Literal w) z = z ≡ w

abbrev pub AreTyped : LeafType → List ℤ → Type 0
AreTyped t zs = AllByRecursion (IsTyped t) zs

abbrev pub IsPresent : Value → Type 0
IsPresent v = is_null v ≡ false

-- the numbers of values, none of which is null, and whose leaves are of a type
pub record AreNumbersOf (t : LeafType) (vs : List Value) (w : Words) : Type 0 where
  pub numbers : word_numbers w ≡ map number_of vs
  pub present : AllByRecursion IsPresent vs
  pub typed : AreTyped t (word_numbers w)

-- the number, or the greatest i64
abbrev pub clip : ℕ → ℤ
clip n = int_min (pos n) (pos 9223372036854775807)

abbrev pub IsInt64 : ℤ → Type 0
IsInt64 z = (negsuc 9223372036854775807 ≤ℤ z) × (z ≤ℤ pos 9223372036854775807)

abbrev pub IsNat64 : ℤ → Type 0
IsNat64 z = (pos 0 ≤ℤ z) × (z ≤ℤ pos 18446744073709551615)

-- one more number before others
abbrev pub with_number : Result ℤ Why → Result (List ℤ) Fault → Result (List ℤ) Fault
with_number (Ok z) (Ok zs) = Ok (z ∷ zs)
with_number (Ok z) (Err f) = Err f
with_number (Err why) rest = Err (fault_of why)

abbrev pub all_numbers : List (Result ℤ Why) → Result (List ℤ) Fault
all_numbers [] = Ok []
all_numbers (r ∷ rs) = with_number r (all_numbers rs)

-- the results that a primitive holds, or why there are none
abbrev pub prim_leaves : Arith → Primitive → List ℤ → List ℤ → List (Result ℤ Why)
prim_leaves op p xs ys = leaves op (least_number p) (greatest_number p) xs ys

-- the greatest number of a primitive that fits an i64
abbrev pub greatest_int64 : Primitive → ℤ
greatest_int64 p = int_min (greatest_number p) (pos 9223372036854775807)

-- the results that a primitive holds and that fit an i64
abbrev pub int_leaves : Arith → Primitive → List ℤ → List ℤ → List (Result ℤ Why)
int_leaves op p xs ys = leaves op (least_number p) (greatest_int64 p) xs ys

-- the results that a primitive holds and that are not negative
abbrev pub nat_leaves : Arith → Primitive → List ℤ → List ℤ → List (Result ℤ Why)
nat_leaves op p xs ys = leaves op (pos 0) (pos (nat_of (greatest_number p))) xs ys

-- 1 where the operation on two truth values holds, else 0
abbrev pub joined_bytes : Logic → List ℤ → List ℤ → List ℕ
joined_bytes op xs ys = zip2 (λ x y. from_bool (joined op (is_nonzero x) (is_nonzero y))) xs ys

-- the numbers of both sides are of the primitive in which they are calculated, or truth values
abbrev pub AreReady : Binary → Primitive → List ℤ → List ℤ → Type 0
AreReady (Calculate op) p xs ys =
    (is_whole p ≡ true) × AllByRecursion (Holds p) xs × AllByRecursion (Holds p) ys
AreReady (Test how) p xs ys = p ≡ Truths
AreReady (Join op) p xs ys =
    (p ≡ Truths) × AllByRecursion IsInt64 xs × AllByRecursion IsInt64 ys
