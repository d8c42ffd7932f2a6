-- Where the item of an array at a place settles.
use Rattle.std.specs.Prelude.{◌≡◌, ◌≢◌, ◌⊎◌, ℕ, ◌+◌, ◌<◌, ◌≤◌, slice_range}
use Rattle.awk_types.specs.Datum.{Datum, arr, one}
use Rattle.awk_types.specs.Settle.{settle}
use Rattle.awk_types.specs.Simple.{simple_value}
use Rattle.awk_types.specs.Value.{Value, null}
use Rattle.awk_layout.specs.Datum.{datum_of, IsDatum, kept}
use Rattle.awk_layout.specs.declared.datum.Datum as code
use Rattle.awk_layout.specs.Item.{item}
use Rattle.awk_layout.specs.Layout.{Layout, weight, height}
use Rattle.awk_layout.specs.Typing.{layout_type, array_type, array_items}
use Rattle.awk_layout.specs.Valid.{len}
use Rattle.awk_view.specs.declared.settling.End.{End}
use Rattle.awk_view.specs.declared.settling.End.TheVariants.{Null, Single, Items}

-- the item of an array at a place, and what it is as a datum
abbrev pub simple_item : Layout → ℕ → Value
simple_item x i = simple_value (layout_type x) (item x i)

abbrev pub settled_item : Layout → ℕ → Datum
settled_item x i = settle (array_type x) (simple_item x i)

-- item i of x is item k of y as a single value
pub record IsSingleOf (x : Layout) (i : ℕ) (y : Layout) (k : ℕ) : Type 0 where
  pub is : settled_item x i ≡ one (array_type y) (simple_item y k)
  pub present : simple_item x i ≢ null
  pub within : k < len y
  pub below : (weight y < weight x) ⊎ (y ≡ x)
  pub height_within : height y ≤ height x

-- item i of x is the items of y from lo below hi
pub record IsListOf (x : Layout) (i : ℕ) (y : Layout) (lo hi : ℕ) : Type 0 where
  pub is : settled_item x i ≡ arr (array_type y) (slice_range (array_items y) lo hi)
  pub present : simple_item x i ≢ null
  pub order : lo ≤ hi
  pub within : hi ≤ len y
  pub below : weight y < weight x
  pub height_within : height y ≤ height x

abbrev pub IsEnd : Layout → ℕ → End → Type 0
IsEnd x i Null = simple_item x i ≡ null
IsEnd x i (Single y k) = IsSingleOf x i y.now k
IsEnd x i (Items y lo hi) = IsListOf x i y.now lo hi

-- the nodes from an end on, and the list's own
abbrev pub end_weight : End → ℕ
end_weight Null = 1
end_weight (Single y k) = weight y.now
end_weight (Items y lo hi) = weight y.now + 1

-- r is item i of x alone
pub record IsItemOf (x : Layout) (i : ℕ) (r : Layout) : Type 0 where
  pub size : len r ≡ 1
  pub typ : array_type r ≡ array_type x
  pub item : simple_item r 0 ≡ simple_item x i
  pub weight_within : weight r ≤ weight x
  pub height_within : height r ≤ height x

-- d is item i of x as a single value
pub record IsOneOf (x : Layout) (i : ℕ) (d : code.Datum) : Type 0 where
  pub datum : IsDatum d
  pub is : datum_of d ≡ one (array_type x) (simple_item x i)
  pub weight_within : weight (kept d) ≤ weight x
  pub height_within : height (kept d) ≤ height x

-- d is the array of the items of x from lo below hi
pub record IsArrOf (x : Layout) (lo hi : ℕ) (d : code.Datum) : Type 0 where
  pub datum : IsDatum d
  pub is : datum_of d ≡ arr (array_type x) (slice_range (array_items x) lo hi)
  pub weight_within : weight (kept d) ≤ weight x
  pub height_within : height (kept d) ≤ height x
