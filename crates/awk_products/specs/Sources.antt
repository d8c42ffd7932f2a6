-- Lists that the slots of tuples take their items of, and the tuples of them.
use Rattle.std.specs.Prelude.{◌≡◌, ℕ, ◌+◌, ◌<◌, ◌≤◌, Bool, if◌then◌else◌, List, length, map, get_or}
use Rattle.std.specs.Prelude.{replicate, Option, Some, None, pos}
use Rattle.std.specs.List.{range_with_len}
use Rattle.awk_types.specs.ItemLimit.{item_limit}
use Rattle.awk_types.specs.Value.{Value, value_list}
use Rattle.awk_lanes.specs.declared.kind.Kind.TheVariants.{I64}
use Rattle.awk_lanes.specs.Column.{Column, no_places}
use Rattle.awk_lanes.specs.Counted.{before, offsets_by}
use Rattle.awk_lanes.specs.Made.{lane_of}
use Rattle.awk_lanes.specs.Places.{place_at}
use Rattle.awk_layout.specs.Item.{run}
use Rattle.awk_layout.specs.Layout.{Layout, empty}
use Rattle.awk_layout.specs.Typing.{array_type}
use Rattle.awk_layout.specs.Valid.{len, IsValid}
use Rattle.awk_gather.specs.Arrays.{array_item}
use Rattle.awk_places.specs.Products.{AreSpansOf, product_count}
use Rattle.awk_products.specs.Tuples.{tuple_type, tuples_of}
use Rattle.awk_products.specs.declared.sources.Sources.{Sources}
use Rattle.awk_products.specs.declared.tuples.Tuples.{Tuples}

-- ---- the lists of a slot

-- n lists, each from a first place on so many items of a content
pub record IsSource (n : ℕ) (f l : Column) (y : Layout) : Type 0 where
  pub spans : AreSpansOf n f l
  pub within : (i : ℕ) → i < n → place_at f i + place_at l i ≤ len y

abbrev pub source_list : Column → Column → Layout → ℕ → List Value
source_list f l y i = value_list (run (array_item y) (place_at f i) (place_at l i))

-- ---- those of all slots

pub record AreSources (n : ℕ) (x : Sources) : Type 0 where
  pub firsts : length x.firsts ≡ length x.contents
  pub lengths : length x.lengths ≡ length x.contents
  pub each : (j : ℕ) → j < length x.contents → IsSource n (get_or x.firsts j no_places)
      (get_or x.lengths j no_places) (get_or x.contents j empty)

-- list i of slot j
abbrev pub list_in : Sources → ℕ → ℕ → List Value
list_in x i j =
    source_list (get_or x.firsts j no_places) (get_or x.lengths j no_places)
    (get_or x.contents j empty) i

-- list i of each slot
abbrev pub lists_in : Sources → ℕ → List (List Value)
lists_in x i = map (list_in x i) (range_with_len 0 (length x.contents))

-- ---- tuples of them

-- lists of the tuples of list i of each slot
pub record AreTuplesOf (places : Bool) (n : ℕ) (x : Sources) (t : Tuples) : Type 0 where
  pub few : before (product_count x.lengths) n ≤ item_limit
  pub offsets : t.offsets ≡ offsets_by (product_count x.lengths) n
  pub valid : IsValid t.node
  pub size : len t.node ≡ before (product_count x.lengths) n
  pub typ : array_type t.node ≡ tuple_type places (map array_type x.contents)
  pub tuples : (i : ℕ) → i < n
      → value_list (run (array_item t.node) (before (product_count x.lengths) i)
      (product_count x.lengths i))
      ≡ tuples_of places (lists_in x i)

-- the same, or none where the tuples are more than a column may have
abbrev pub AreProducts : Bool → ℕ → Sources → Option Tuples → Type 0
AreProducts places n x None = item_limit < before (product_count x.lengths) n
AreProducts places n x (Some t) = AreTuplesOf places n x t

-- a number n times; zeros are what places are counted from
abbrev pub repeated : ℕ → ℕ → Column
repeated n m = lane_of I64 n (λ i. pos m)

abbrev pub zeros : ℕ → Column
zeros n = repeated n 0

-- where the places of each slot are counted from
abbrev pub slot_firsts : Bool → ℕ → List Column → List Column
slot_firsts places n fs = if places then replicate (length fs) (zeros n) else fs
