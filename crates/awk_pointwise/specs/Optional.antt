-- Sides of which some places may be null, and choices between them.
use Rattle.std.specs.Prelude.{◌≡◌, ℕ, ◌<◌, ℤ, pos, List, map, replicate, get_or, if◌then◌else◌}
use Rattle.std.specs.Simd.Lanes.{zip2}
use Rattle.awk_types.specs.Value.{Value, int, null}
use Rattle.awk_lanes.specs.Column.{Column}
use Rattle.awk_lanes.specs.Numbers.{is_nonzero}
use Rattle.awk_lanes.specs.Places.{size_of, at, option_place, IsOptionKind}
use Rattle.awk_lanes.specs.Ranges.{AreNumbers}
use Rattle.awk_layout.specs.Item.{at_option, leaf_value}
use Rattle.awk_layout.specs.Kinds.{primitive_of}
use Rattle.awk_leaves.specs.Values.{value_in}
use Rattle.awk_leaves.specs.declared.leaf_type.LeafType.{LeafType}
use Rattle.awk_leaves.specs.declared.leaf_type.LeafType.TheVariants as of
use Rattle.awk_pointwise.specs.Sides.{lane_values, leaf_type, side_values, IsSide, IsLeafNumber}
use Rattle.awk_pointwise.specs.declared.sides.Side.{Side}
use Rattle.awk_pointwise.specs.declared.sides.Side.TheVariants as side
use Rattle.awk_pointwise.specs.declared.optional.Optional.{Optional}
use Rattle.awk_pointwise.specs.declared.optional.Optional.TheVariants as optional

-- the item at a place, or null where there is none
abbrev pub item_at : List Value → ℤ → Value
item_at vs z = at_option (option_place z) (λ k. get_or vs k null)

abbrev pub optional_type : Optional → LeafType
optional_type (optional.Whole s) = leaf_type s.now
optional_type (optional.Indexed i c) = of.Of (primitive_of c.now.kind)
optional_type optional.Nulls = of.Unknown

-- its values at n places
abbrev pub optional_values : ℕ → Optional → List Value
optional_values n (optional.Whole s) = side_values n s.now
optional_values n (optional.Indexed i c) = map (item_at (lane_values c.now)) i.now.items
optional_values n optional.Nulls = replicate n null

abbrev pub IsOptional : ℕ → Optional → Type 0
IsOptional n (optional.Whole s) = IsSide n s.now
IsOptional n (optional.Indexed i c) = (size_of i.now ≡ n) × IsOptionKind i.now.kind
IsOptional n optional.Nulls = Unit {0}

-- null where a number is not 0
abbrev pub unless_null : ℤ → Value → Value
unless_null m v = if is_nonzero m then null else v

-- the values of a lane, null where a second lane says so
abbrev pub masked_values : Column → Column → List Value
masked_values nulls c = zip2 unless_null nulls.items (lane_values c)

-- ---- by place

abbrev pub side_at : ℕ → Side → Value
side_at i (side.Column lane) = leaf_value lane.now.kind (at lane.now i)
side_at i side.Missing = null
side_at i (side.Number p z) = value_in p z
side_at i (side.Literal z) = int z

abbrev pub optional_at : ℕ → Optional → Value
optional_at i (optional.Whole s) = side_at i s.now
optional_at i (optional.Indexed j c) =
    item_at (lane_values c.now) (get_or j.now.items i (pos 0))
optional_at i optional.Nulls = null

-- it has a place i
abbrev pub HasSidePlace : ℕ → Side → Type 0
HasSidePlace i (side.Column lane) = i < size_of lane.now
HasSidePlace i (side.Number p z) = IsLeafNumber p z
HasSidePlace i s = Unit {0}

abbrev pub HasPlace : ℕ → Optional → Type 0
HasPlace i (optional.Whole s) = HasSidePlace i s.now
HasPlace i (optional.Indexed j c) = (i < size_of j.now) × IsOptionKind j.now.kind
HasPlace i optional.Nulls = Unit {0}

-- each number of its lane is one of its kind
abbrev pub AreKnownSide : Side → Type 0
AreKnownSide (side.Column lane) = AreNumbers lane.now
AreKnownSide s = Unit {0}

abbrev pub AreKnown : Optional → Type 0
AreKnown (optional.Whole s) = AreKnownSide s.now
AreKnown (optional.Indexed j c) = AreNumbers c.now
AreKnown optional.Nulls = Unit {0}
