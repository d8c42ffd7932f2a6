-- The numbers or truth values of an array as a lane.
use Rattle.std.specs.Prelude.{◌≡◌, ℕ, ◌<◌, ◌^◌}
use Rattle.awk_types.specs.DataType.{leaf}
use Rattle.awk_types.specs.Value.{int}
use Rattle.awk_lanes.specs.Column.{Column}
use Rattle.awk_lanes.specs.Places.{size_of, at}
use Rattle.awk_layout.specs.Layout.{Layout}
use Rattle.awk_layout.specs.Item.{leaf_value}
use Rattle.awk_layout.specs.Kinds.{primitive_of}
use Rattle.awk_layout.specs.Typing.{array_type}
use Rattle.awk_layout.specs.Valid.{len}
use Rattle.awk_gather.specs.Arrays.{array_item}

pub record AreNumbers (x : Layout) (c : Column) : Type 0 where
  pub typ : 0 < len x → array_type x ≡ leaf (primitive_of c.kind)
  pub size : size_of c ≡ len x
  pub fits : size_of c < 2 ^ 63
  pub items : (i : ℕ) → i < len x → array_item x i ≡ leaf_value c.kind (at c i)

-- the same of whole numbers
pub record AreCounts (x : Layout) (c : Column) : Type 0 where
  pub size : size_of c ≡ len x
  pub items : (i : ℕ) → i < len x → array_item x i ≡ int (at c i)
