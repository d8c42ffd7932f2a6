-- Arrays of leaves as cells.
use Rattle.std.specs.Prelude.{◌≡◌, ℕ, ◌<◌, Option, None}
use Rattle.awk_types.specs.DataType.{unknown, leaf}
use Rattle.awk_types.specs.Parts.{option_number}
use Rattle.awk_lanes.specs.Column.{Column}
use Rattle.awk_layout.specs.Kinds.{primitive_of}
use Rattle.awk_layout.specs.Layout.{Layout}
use Rattle.awk_layout.specs.Typing.{array_type}
use Rattle.awk_layout.specs.Valid.{len}
use Rattle.awk_gather.specs.Arrays.{array_item}
use Rattle.awk_sorting.specs.Cells.{cell_at, AreCells}
use Rattle.awk_order.specs.declared.cells.LeafCells.{LeafCells}

-- the numbers of a lane, where there is an index at its places, are those of an array's items
pub record AreItemCells (x : Layout) (c : Column) (j : Option Column) : Type 0 where
  pub cells : AreCells c j (len x)
  pub items : (i : ℕ) → i < len x → option_number (array_item x i) ≡ cell_at c j i

abbrev pub AreLeafCells : Layout → LeafCells → Type 0
AreLeafCells x l = AreItemCells x l.lane l.index

-- the numbers of an array of leaves, unless it is one of unknown
pub record AreNumbers (x : Layout) (c : Column) : Type 0 where
  pub typ : (array_type x ≡ unknown → ⊥) → array_type x ≡ leaf (primitive_of c.kind)
  pub cells : AreItemCells x c None
