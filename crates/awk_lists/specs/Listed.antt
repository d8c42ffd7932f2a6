-- The lists of an array, one after another, where null has no items.
use Rattle.std.specs.Prelude.{◌≡◌, ℕ, ◌+◌, ◌<◌, ◌≤◌, List, length, take, pos, Option, Some, None}
use Rattle.awk_types.specs.Parts.{item_of}
use Rattle.awk_types.specs.Simple.{present}
use Rattle.awk_types.specs.Value.{Value}
use Rattle.awk_types.specs.ItemLimit.{item_limit}
use Rattle.awk_lanes.specs.Column.{Column}
use Rattle.awk_lanes.specs.Places.{size_of, at, IsIndexKind}
use Rattle.awk_layout.specs.Layout.{Layout}
use Rattle.awk_layout.specs.Valid.{IsValid}
use Rattle.awk_layout.specs.Typing.{array_type, array_items}
use Rattle.awk_counts.specs.Counted.{spans}
use Rattle.awk_columns.specs.Columns.{joined_items}
use Rattle.awk_columns.specs.Joined.{total}
use Rattle.awk_columns.specs.Reached.{IsReached}
use Rattle.awk_columns.specs.declared.lists.Joined.{Joined}
use Rattle.awk_columns.specs.declared.lists.Joined.TheVariants.{TooMany, Lists}

-- how many items the first i lists have together
abbrev pub items_before : List Value → ℕ → ℕ
items_before vs i = length (joined_items (take i vs))

-- where each of these lists begins and ends, if they lie one after another
pub record AreEnds (o : Column) (vs : List Value) : Type 0 where
  pub kind : IsIndexKind o.kind
  pub size : size_of o ≡ length vs + 1
  pub ends : (i : ℕ) → i ≤ length vs → at o i ≡ pos (items_before vs i)

pub record AreListed (x : Layout) (o : Column) (z : Layout) : Type 0 where
  pub typ : array_type z ≡ item_of (present (array_type x))
  pub valid : IsValid z
  pub ends : AreEnds o (array_items x)
  pub column : array_items z ≡ joined_items (array_items x)

-- the same without where each begins
pub record HoldsAll (x z : Layout) : Type 0 where
  pub typ : array_type z ≡ item_of (present (array_type x))
  pub valid : IsValid z
  pub column : array_items z ≡ joined_items (array_items x)

abbrev pub IsWhole : Layout → Option Layout → Type 0
IsWhole x None = item_limit < length (joined_items (array_items x))
IsWhole x (Some z) = (length (joined_items (array_items x)) ≤ item_limit) × HoldsAll x z

-- the items of lists by their ends, one after another, unless they are too many
abbrev pub AreFewItems : Column → Column → Layout → Option Layout → Type 0
AreFewItems s t y None = item_limit < total s t y
AreFewItems s t y (Some z) = (total s t y ≤ item_limit) × IsReached y (spans s t) z × IsValid z

abbrev pub IsListed : Layout → Joined → Type 0
IsListed x TooMany = item_limit < length (joined_items (array_items x))
IsListed x (Lists o z) = (length (joined_items (array_items x)) ≤ item_limit) × AreListed x o z
