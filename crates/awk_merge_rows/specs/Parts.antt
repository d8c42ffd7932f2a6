-- Columns of rows, part by part.
use Rattle.std.specs.Prelude.{◌≡◌, ℕ, ◌<◌, ◌≤◌, negsuc, List, [], get_or, slice_get, length, Option}
use Rattle.std.specs.Prelude.{Some, None}
use Rattle.awk_types.specs.DataType.{DataType, tup, types_from}
use Rattle.awk_types.specs.Value.{null, row, values_from}
use Rattle.awk_lanes.specs.declared.kind.Kind.TheVariants.{I64}
use Rattle.awk_layout.specs.Layout.{Layout, optional, empty}
use Rattle.awk_lanes.specs.Made.{lane_of}
use Rattle.awk_open.specs.Opens.{OpensRow}
use Rattle.awk_unify.specs.Carry.{Carry, keep}
use Rattle.awk_merge_sides.specs.Lifts.{part_source, part_carry}
use Rattle.awk_merge_sides.specs.Sides.{Side, merged_items, with_side, IsSide}
use Rattle.awk_merge_rows.specs.RowLevels.{across, AreEachLong}
use Rattle.awk_merge_sides.specs.Groups.{AreGroups}

-- n nulls
abbrev pub null_column : ℕ → Layout
null_column n = optional (lane_of I64 n (λ i. negsuc 0)) empty

-- a column as it is carried, or n nulls where there is none
abbrev pub or_nulls : ℕ → Carry → Option Layout → Side
or_nulls n f (Some y) = record { column = y; carry = f }
or_nulls n f None = record { column = null_column n; carry = keep }

abbrev pub side_from : ℕ → (ℕ → Carry) → List Layout → Option ℕ → Side
side_from n f ys (Some k) = or_nulls n (f k) (slice_get ys k)
side_from n f ys None = or_nulls n keep None

-- what n rows of these columns give to the part at a place, where the rows are carried so
abbrev pub part_side : ℕ → Carry → List Layout → ℕ → Side
part_side n f ys j = side_from n (part_carry f) ys (part_source f j)

-- the first j groups each got a column
pub record ArePut (s : ℕ → Side) (j : ℕ) (old new : List (List Side)) : Type 0 where
  pub size : length new ≡ length old
  pub put : (k : ℕ) → k < j → k < length old
      → get_or new k [] ≡ with_side (get_or old k []) (s k).column (s k).carry
  pub left : (k : ℕ) → j ≤ k → get_or new k [] ≡ get_or old k []

-- a column of rows
abbrev pub IsRowSide : Side → Type 0
IsRowSide s = (ts : List DataType) × IsSide (tup (types_from ts)) s

abbrev pub OpensAsRow : Layout → List Layout → Type 0
OpensAsRow x ys = (names : Option (List (List ℕ))) × OpensRow names ys x

-- the groups hold the parts of the rows of some columns
pub record AreRowParts (ts : List DataType) (ss : List Side) (gs : List (List Side)) : Type 0 where
  pub groups : AreGroups ts gs
  pub long : AreEachLong (length (merged_items ss)) gs
  pub items : (i : ℕ) → i < length (merged_items ss)
      → get_or (merged_items ss) i null ≡ row (values_from (across gs i))
