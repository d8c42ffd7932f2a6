-- Columns in parts: more columns with the same items in order.
use Rattle.std.specs.Prelude.{◌≡◌, ◌++◌, List}
use Rattle.awk_types.specs.DataType.{DataType}
use Rattle.awk_merge_sides.specs.Sides.{Side, sides_of, side_items, merged_items, IsSide, AreSides}
use Rattle.awk_merge_sides.specs.Sides.{IsCounted}
use Rattle.awk_merge_sides.specs.declared.sides.Sides.{Sides}

-- the items of a column behind those before, in further columns
pub record IsPartsPut (s : Side) (before after : List Side) : Type 0 where
  pub sides : (t : DataType) → IsSide t s → AreSides t before → AreSides t after
  pub items : merged_items after ≡ merged_items before ++ side_items s

-- columns with the same items, whose values become values of the same types
pub record IsParted (ss : List Side) (r : Sides) : Type 0 where
  pub sides : (t : DataType) → AreSides t ss → AreSides t (sides_of r)
  pub items : merged_items (sides_of r) ≡ merged_items ss
  pub counted : IsCounted r
