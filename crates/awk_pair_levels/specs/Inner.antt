-- The rows of arrays below those of a level.
use Rattle.std.specs.Prelude.{◌≡◌, ℕ, ◌<◌, ◌≤◌, Bool, true, false, List, map, length}
use Rattle.std.specs.List.{list_any, flat_map}
use Rattle.awk_types.specs.ItemLimit.{item_limit}
use Rattle.awk_lanes.specs.Column.{Column}
use Rattle.awk_lanes.specs.declared.kind.Kind.TheVariants.{I64}
use Rattle.awk_layout.specs.Layout.{Layout}
use Rattle.awk_layout.specs.Typing.{array_type}
use Rattle.awk_open.specs.Opened.{AreLong}
use Rattle.awk_columns.specs.ListClass.{Class}
use Rattle.awk_pair_sides.specs.Levels.{item_types, level_class}
use Rattle.awk_pair_sides.specs.Rows.{rows_at, lengths_offsets}
use Rattle.awk_pair_sides.specs.Sides.{differ, inner_rows, inner_length}
use Rattle.awk_pair_levels.specs.declared.below.Below.{Below}
use Rattle.awk_pair_levels.specs.declared.below.Below.TheVariants as below

-- ys are the rows below those of xs, whose lists lie one after another
pub record AreInner (keep : Bool) (n : ℕ) (xs : List Layout) (c : Class) (o : Column) (m : ℕ)
    (ys : List Layout) : Type 0 where
  pub even : list_any (differ keep (map array_type xs)) (rows_at xs n) ≡ false
  pub few : m ≤ item_limit
  pub class : c ≡ level_class keep (map array_type xs)
  pub offsets : o ≡ record {
    kind = I64;
    items =
        lengths_offsets 0 (map (inner_length keep (map array_type xs)) (rows_at xs n));
  }
  pub types : map array_type ys ≡ item_types (map array_type xs)
  pub long : AreLong m ys
  pub rows : rows_at ys m ≡ flat_map (inner_rows keep (map array_type xs)) (rows_at xs n)

abbrev pub IsBelow : Bool → ℕ → List Layout → Below → Type 0
IsBelow keep n xs below.Unequal = list_any (differ keep (map array_type xs)) (rows_at xs n) ≡ true
IsBelow keep n xs below.TooMany =
    (list_any (differ keep (map array_type xs)) (rows_at xs n) ≡ false)
    × (item_limit < length (flat_map (inner_rows keep (map array_type xs)) (rows_at xs n)))
IsBelow keep n xs (below.Rows c o m ys) = AreInner keep n xs c o m ys
