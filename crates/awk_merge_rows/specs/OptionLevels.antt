-- A level of options that are merged: an index, and the columns of what is present.
use Rattle.std.specs.Prelude.{◌≡◌, false, ◌<◌, ◌^◌, List, length}
use Rattle.awk_types.specs.DataType.{DataType, opt}
use Rattle.awk_types.specs.Simple.{is_option}
use Rattle.awk_lanes.specs.Places.{size_of, IsOptionalIndex}
use Rattle.awk_lanes.specs.declared.kind.Kind.TheVariants.{I64}
use Rattle.awk_gather.specs.Arrays.{pick}
use Rattle.awk_merge_sides.specs.Sides.{Side, sides_of, merged_items, AreSides, IsCounted}
use Rattle.awk_merge_rows.specs.declared.options.OptionLevel.{OptionLevel}

-- the columns of what is present have a type where those of all have its option
pub record IsOptionLevel (ss : List Side) (r : OptionLevel) : Type 0 where
  pub sides : (u : DataType) → is_option u ≡ false → AreSides (opt u) ss
      → AreSides u (sides_of r.sides)
  pub counted : IsCounted r.sides
  pub kind : r.index.kind ≡ I64
  pub fits : size_of r.index < 2 ^ 63
  pub index : IsOptionalIndex r.index (length (merged_items (sides_of r.sides)))
  pub items : merged_items ss ≡ pick (merged_items (sides_of r.sides)) r.index.items
