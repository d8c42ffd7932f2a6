-- What a side gives at each place.
use Rattle.std.specs.Prelude.{◌≡◌, ℕ, ℤ, pos, negsuc, ◌≤ℤ◌, List, map, replicate, ◌⊎◌}
use Rattle.awk_types.specs.Has.{Holds}
use Rattle.awk_types.specs.Value.{Value, int, null}
use Rattle.awk_types.specs.declared.primitive.Primitive.{Primitive}
use Rattle.awk_types.specs.declared.primitive.Primitive.TheVariants.{Bool as Truths}
use Rattle.awk_lanes.specs.Column.{Column}
use Rattle.awk_lanes.specs.Places.{size_of}
use Rattle.awk_layout.specs.Item.{leaf_value}
use Rattle.awk_layout.specs.Kinds.{primitive_of}
use Rattle.awk_numbers.specs.Folds.{lane_numbers}
use Rattle.awk_leaves.specs.Values.{value_in}
use Rattle.awk_leaves.specs.declared.leaf_type.LeafType.{LeafType}
use Rattle.awk_leaves.specs.declared.leaf_type.LeafType.TheVariants as of
use Rattle.awk_pointwise.specs.declared.sides.Side.{Side}
use Rattle.awk_pointwise.specs.declared.sides.Side.TheVariants as side

-- the values of a lane
abbrev pub lane_values : Column → List Value
lane_values c = map (leaf_value c.kind) (lane_numbers c)

abbrev pub leaf_type : Side → LeafType
leaf_type (side.Column lane) = of.Of (primitive_of lane.now.kind)
leaf_type side.Missing = of.Unknown
leaf_type (side.Number p z) = of.Of p
leaf_type (side.Literal z) = of.Literal z

-- its values at n places
abbrev pub side_values : ℕ → Side → List Value
side_values n (side.Column lane) = lane_values lane.now
side_values n side.Missing = replicate n null
side_values n (side.Number p z) = replicate n (value_in p z)
side_values n (side.Literal z) = replicate n (int z)

-- a number from the least i64 to the greatest u64
abbrev pub IsNumber64 : ℤ → Type 0
IsNumber64 z = (negsuc 9223372036854775807 ≤ℤ z) × (z ≤ℤ pos 18446744073709551615)

-- a number of the primitive, or a truth value as 0 or 1
abbrev pub IsLeafNumber : Primitive → ℤ → Type 0
IsLeafNumber Truths z = (z ≡ pos 0) ⊎ (z ≡ pos 1)
IsLeafNumber p z = Holds p z

-- a side of n places
abbrev pub IsSide : ℕ → Side → Type 0
IsSide n (side.Column lane) = size_of lane.now ≡ n
IsSide n side.Missing = n ≡ 0
IsSide n (side.Number p z) = IsLeafNumber p z
IsSide n (side.Literal z) = IsNumber64 z
