-- The columns at the ends of a pairing, one for each operand that is a datum.
use Rattle.std.specs.Prelude.{◌≡◌, ℕ, ◌<◌, List, [], length, get_or, replicate, Option, Some, None}
use Rattle.awk_types.specs.DataType.{unknown, leaf}
use Rattle.awk_types.specs.Value.{Value, int}
use Rattle.awk_lanes.specs.Column.{Column}
use Rattle.awk_layout.specs.Kinds.{primitive_of}
use Rattle.awk_layout.specs.Layout.{Layout, empty}
use Rattle.awk_layout.specs.Typing.{array_type, array_items}
use Rattle.awk_layout.specs.Valid.{len}
use Rattle.awk_layout.specs.declared.datum.Operand.{Operand}
use Rattle.awk_layout.specs.declared.datum.Operand.TheVariants as operand
use Rattle.awk_leaves.specs.declared.leaf_type.LeafType.{LeafType}
use Rattle.awk_leaves.specs.declared.leaf_type.LeafType.TheVariants as of
use Rattle.awk_pointwise.specs.Sides.{lane_values}
use Rattle.awk_ends.specs.Operands.{leaf_in}

-- how many data there are before the second of two operands
abbrev pub data_before : Operand → ℕ
data_before (operand.Of x) = 1
data_before (operand.Literal z) = 0

-- a datum has a column
abbrev pub IsAmong : Operand → ℕ → List Layout → Type 0
IsAmong (operand.Of x) k ys = k < length ys
IsAmong (operand.Literal z) k ys = Unit {0}

abbrev pub column_at : List Layout → ℕ → Layout
column_at ys k = get_or ys k empty

-- how many ends there are
abbrev pub ends_of : List Layout → ℕ
ends_of ys = len (column_at ys 0)

abbrev pub leaf_at : Operand → ℕ → List Layout → LeafType
leaf_at (operand.Of x) k ys = leaf_in (array_type (column_at ys k))
leaf_at (operand.Literal z) k ys = of.Literal z

abbrev pub values_at : ℕ → Operand → ℕ → List Layout → List Value
values_at n (operand.Of x) k ys = array_items (column_at ys k)
values_at n (operand.Literal z) k ys = replicate n (int z)

-- the lane of an array of leaves, if it has any
abbrev pub IsLaneOf : Layout → Option Column → Type 0
IsLaneOf y None = (array_type y ≡ unknown) × (array_items y ≡ [])
IsLaneOf y (Some c) =
    (array_type y ≡ leaf (primitive_of c.kind)) × (array_items y ≡ lane_values c)
