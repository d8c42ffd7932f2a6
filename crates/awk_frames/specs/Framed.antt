-- A node over a frame: what stands at the ends of values, by a function of each.
use Rattle.std.specs.Prelude.{◌≡◌, ℕ, ◌-◌, ◌<◌, ◌^◌}
use Rattle.awk_types.specs.DataType.{DataType, var, reg, opt}
use Rattle.awk_types.specs.Simple.{option_of, in_list, in_option}
use Rattle.awk_types.specs.Value.{Value}
use Rattle.awk_lanes.specs.Places.{size_of, IsOptionalIndex}
use Rattle.awk_layout.specs.Layout.{Layout, optional}
use Rattle.awk_layout.specs.Typing.{array_type, array_items}
use Rattle.awk_layout.specs.Valid.{len}
use Rattle.awk_columns.specs.Joined.{AreOffsets}
use Rattle.awk_columns.specs.ListNode.{AreEven, list_layout}
use Rattle.awk_frames.specs.Shape.{Shape, leaves, items, missing}

-- how many places a shape has
abbrev pub places : Shape → ℕ
places (leaves n) = n
places (items o c s) = size_of o - 1
places (missing j s) = size_of j

-- the lanes of a shape over n ends are those of lists and of options over what is below: offsets
-- that fill it, of a size where the lists are regular, and an index into it
abbrev pub IsFrame : Shape → ℕ → Type 0
IsFrame (leaves m) n = (m ≡ n) × (n < 2 ^ 63)
IsFrame (items o c s) n =
    AreOffsets o (size_of o - 1) (places s) × AreEven c o (size_of o - 1) × IsFrame s n
IsFrame (missing j s) n = (size_of j < 2 ^ 63) × IsOptionalIndex j (places s) × IsFrame s n

-- a column of ends under a shape, as a node
abbrev pub framed_layout : Shape → Layout → Layout
framed_layout (leaves n) y = y
framed_layout (items o c s) y = list_layout c (size_of o - 1) o (framed_layout s y)
framed_layout (missing j s) y = optional j (framed_layout s y)

-- y shows what x does: as many items, of the same type, the same ones
pub record IsAlike (x y : Layout) : Type 0 where
  pub size : len y ≡ len x
  pub typ : array_type y ≡ array_type x
  pub items : array_items y ≡ array_items x

-- a value of a type by a function of what stands at its ends
abbrev pub over : DataType → (Value → Value) → Value → Value
over (var t) f v = in_list (over t f) v
over (reg n t) f v = in_list (over t f) v
over (opt t) f v = in_option (over t f) v
over t f v = f v

-- a type with another one at its ends
abbrev pub over_type : DataType → DataType → DataType
over_type (var t) u = var (over_type t u)
over_type (reg n t) u = reg n (over_type t u)
over_type (opt t) u = option_of (over_type t u)
over_type t u = u
