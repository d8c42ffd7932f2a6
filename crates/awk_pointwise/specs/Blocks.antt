-- A lane that is made block by block.
use Rattle.std.specs.Prelude.{◌≡◌, ℕ, ◌-◌, ◌*◌, ◌≤◌, List, length, take, replicate, slice_range}
use Rattle.std.specs.Prelude.{Result, Ok}
use Rattle.awk_types.specs.Value.{Value, int, null}
use Rattle.awk_types.specs.declared.fault.Fault.{Fault}
use Rattle.awk_lanes.specs.Numbers.{width, numbers}
use Rattle.awk_lanes.specs.Words.{column}
use Rattle.awk_lanes.specs.declared.kind.Kind.{Kind}
use Rattle.awk_lanes.specs.Places.{size_of}
use Rattle.awk_leaves.specs.Values.{all_values, value_in}
use Rattle.awk_pointwise.specs.Sides.{lane_values, leaf_type, IsSide, IsLeafNumber, IsNumber64}
use Rattle.awk_types.specs.declared.primitive.Primitive.{Primitive}
use Rattle.awk_leaves.specs.Table.{binary_judged, unary_judged}
use Rattle.awk_leaves.specs.declared.operation.Binary.{Binary}
use Rattle.awk_leaves.specs.declared.operation.Unary.{Unary}
use Rattle.awk_pointwise.specs.declared.sides.Side.{Side}
use Rattle.awk_pointwise.specs.declared.sides.Side.TheVariants as side

-- bytes are the numbers of the results at the first i places
pub record IsSoFar (rs : List (Result Value Fault)) (k : Kind) (i : ℕ) (bytes : List ℕ)
    : Type 0 where
  pub size : length bytes ≡ i * width k
  pub values : all_values (take i rs) ≡ Ok (lane_values (column k (numbers k i bytes)))

-- a side of at least n places
abbrev pub IsSidePast : ℕ → Side → Type 0
IsSidePast n (side.Column lane) = n ≤ size_of lane.now
IsSidePast n side.Missing = n ≡ 0
IsSidePast n (side.Number p z) = IsLeafNumber p z
IsSidePast n (side.Literal z) = IsNumber64 z

-- its values from place lo below place hi
abbrev pub side_part : ℕ → ℕ → Side → List Value
side_part lo hi (side.Column lane) = slice_range (lane_values lane.now) lo hi
side_part lo hi side.Missing = replicate (hi - lo) null
side_part lo hi (side.Number p z) = replicate (hi - lo) (value_in p z)
side_part lo hi (side.Literal z) = replicate (hi - lo) (int z)

-- two sides of n places, and the primitive of an operation on them
pub record IsPair (op : Binary) (p : Primitive) (n : ℕ) (x y : Side) : Type 0 where
  pub first : IsSide n x
  pub second : IsSide n y
  pub judged : binary_judged op (leaf_type x) (leaf_type y) ≡ Ok p

-- a side of n places, and the primitive of an operation on it
pub record IsSingle (op : Unary) (p : Primitive) (n : ℕ) (x : Side) : Type 0 where
  pub side : IsSide n x
  pub judged : unary_judged op (leaf_type x) ≡ Ok p
