-- What stands in the slots of tuples, each of a content of its own.
use Rattle.std.specs.Prelude.{◌≡◌, ℕ, ◌<◌, ◌≤◌, Bool, List, length, get_or}
use Rattle.awk_types.specs.ItemLimit.{item_limit}
use Rattle.awk_lanes.specs.Column.{Column, no_places}
use Rattle.awk_lanes.specs.Counted.{before}
use Rattle.awk_layout.specs.Layout.{Layout, empty}
use Rattle.awk_layout.specs.Valid.{len}
use Rattle.awk_combi.specs.Slots.{IsSlot, IsSlotLane}
use Rattle.awk_places.specs.Products.{product_count}
use Rattle.awk_products.specs.declared.sources.Sources.{Sources}

-- the tuples of n lists are no more than a column may have
abbrev pub IsFew : ℕ → Sources → Type 0
IsFew n x = before (product_count x.lengths) n ≤ item_limit

-- places for each slot, of its content
abbrev pub AreSlotLanes : Bool → List Layout → List Column → Type 0
AreSlotLanes places ys cs = (j : ℕ) → j < length cs
    → IsSlotLane places (len (get_or ys j empty)) (get_or cs j no_places)

-- the first n slots
pub record AreSlots (places : Bool) (ys : List Layout) (cs : List Column) (n : ℕ)
    (zs : List Layout) : Type 0 where
  pub count : length zs ≡ n
  pub each : (j : ℕ) → j < n
      → IsSlot places (get_or ys j empty) (get_or cs j no_places) (get_or zs j empty)
