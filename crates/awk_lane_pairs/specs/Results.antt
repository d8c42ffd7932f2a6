-- Results of the numbers of two lanes, which lie in groups of bytes.
use Rattle.std.specs.Prelude.{◌≡◌, ℕ, ◌<◌, ℤ, pos, negsuc, false, List, [], length, map, get_or}
use Rattle.std.specs.Prelude.{Result, Ok}
use Rattle.awk_types.specs.Has.{least_number, greatest_number, Holds}
use Rattle.awk_types.specs.declared.primitive.Primitive.{Primitive}
use Rattle.awk_lanes.specs.Column.{Column}
use Rattle.awk_lanes.specs.Made.{lane_of}
use Rattle.awk_lanes.specs.Numbers.{number}
use Rattle.awk_lanes.specs.declared.kind.Kind.{Kind}
use Rattle.awk_kernels.specs.Kernels.{leaves}
use Rattle.awk_kernels.specs.Operations.{exact, divides, floor_div, leaf}
use Rattle.awk_kernels.specs.declared.operation.Arith.{Arith}
use Rattle.awk_kernels.specs.declared.operation.Why.{Why}
use Rattle.awk_layout.specs.Kinds.{kind_of}

-- the exact result of the numbers at place i
abbrev pub exact_at : Arith → Kind → List (List ℕ) → List (List ℕ) → ℕ → ℤ
exact_at op k a b i = exact op (number k (get_or a i [])) (number k (get_or b i []))

-- there is a result at place i, and the primitive holds it
pub record IsHeld (op : Arith) (p : Primitive) (a b : List (List ℕ)) (i : ℕ) : Type 0 where
  pub undivided : divides op ≡ false
  pub held : Holds p (exact_at op (kind_of p) a b i)

-- the same at the first n places
abbrev pub AreHeld : Arith → Primitive → List (List ℕ) → List (List ℕ) → ℕ → Type 0
AreHeld op p a b n = (i : ℕ) → i < n → IsHeld op p a b i

-- the lane of the results, each of which the primitive holds
pub record AreResults (op : Arith) (p : Primitive) (a b : List (List ℕ)) (c : Column)
    : Type 0 where
  pub held : AreHeld op p a b (length a)
  pub lane : ◌≡◌ {A = Column} c (lane_of (kind_of p) (length a) (exact_at op (kind_of p) a b))

-- a lane of the primitive has the results of two rows of numbers
pub record AreCalculated (op : Arith) (p : Primitive) (xs ys : List ℤ) (c : Column)
    : Type 0 where
  pub kind : c.kind ≡ kind_of p
  pub numbers : map (λ (z : ℤ). Ok z) c.items
      ≡ leaves op (least_number p) (greatest_number p) xs ys

-- ---- quotients by one number

-- the quotient of the number at place i, rounded towards minus infinity
abbrev pub quotient_at : Kind → List (List ℕ) → ℤ → ℕ → ℤ
quotient_at k a y i = floor_div (number k (get_or a i [])) y

-- the primitive holds each number
abbrev pub AreKnown : Primitive → List (List ℕ) → Type 0
AreKnown p a = (i : ℕ) → i < length a → Holds p (number (kind_of p) (get_or a i []))

-- ---- of int64

-- the result at place i, or why there is none
abbrev pub leaf_at : Arith → List ℤ → List ℤ → ℕ → Result ℤ Why
leaf_at op xs ys i =
    leaf op (negsuc 9223372036854775807) (pos 9223372036854775807) (get_or xs i (pos 0))
    (get_or ys i (pos 0))
