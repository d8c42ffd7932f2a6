-- Arrays of what stands in the slots of tuples, and where the tuples of lists lie.
use Rattle.std.specs.Prelude.{◌≡◌, ℕ, ◌<◌, ◌≤◌, ◌^◌, Bool, false, if◌then◌else◌, List, length}
use Rattle.std.specs.Prelude.{get_or, pos, ◌≤ℤ◌, Option, Some, None}
use Rattle.awk_types.specs.ItemLimit.{item_limit}
use Rattle.awk_types.specs.Value.{Value, int}
use Rattle.awk_lanes.specs.declared.kind.Kind.TheVariants.{I64}
use Rattle.awk_lanes.specs.Column.{Column, no_places}
use Rattle.awk_lanes.specs.Counted.{before, offsets_by}
use Rattle.awk_lanes.specs.Places.{size_of, at, place_at, IsIndex}
use Rattle.awk_layout.specs.Layout.{Layout, empty, layouts_from, rows as rows_of}
use Rattle.awk_layout.specs.Valid.{len, IsValid}
use Rattle.awk_layout.specs.Typing.{array_type}
use Rattle.awk_gather.specs.Arrays.{array_item}
use Rattle.awk_combi.specs.Combinations.{slot_type}
use Rattle.awk_combi.specs.Spans.{count_at, slot_lanes}
use Rattle.awk_combi.specs.declared.slots.Placed.{Placed}

-- places for a slot: of a content of n items, where the items there are asked
pub record IsSlotLane (places : Bool) (n : ℕ) (c : Column) : Type 0 where
  pub few : size_of c < 2 ^ 63
  pub kind : c.kind ≡ I64
  pub positive : (i : ℕ) → i < size_of c → pos 0 ≤ℤ at c i
  pub within : places ≡ false → IsIndex c n

abbrev pub AreSlotLanes : Bool → ℕ → List Column → Type 0
AreSlotLanes places n cs =
    (j : ℕ) → j < length cs → IsSlotLane places n (get_or cs j no_places)

-- what stands in a slot: a place, or the item there
abbrev pub slot_item : Bool → Layout → ℕ → Value
slot_item places y k = if places then int (pos k) else array_item y k

-- z has, for each place of a lane, what stands in its slot
pub record IsSlot (places : Bool) (y : Layout) (c : Column) (z : Layout) : Type 0 where
  pub valid : IsValid z
  pub size : len z ≡ size_of c
  pub typ : array_type z ≡ slot_type places (array_type y)
  pub items : (k : ℕ) → k < size_of c → array_item z k ≡ slot_item places y (place_at c k)

-- the same of the first n lanes
pub record AreSlots (places : Bool) (y : Layout) (cs : List Column) (n : ℕ) (zs : List Layout)
    : Type 0 where
  pub count : length zs ≡ n
  pub each : (j : ℕ) → j < n → IsSlot places y (get_or cs j no_places) (get_or zs j empty)

-- where the tuples of lists lie, and lanes of their places, or none where they are too many
abbrev pub ArePlaced : Bool → Bool → ℕ → Column → Column → Option Placed → Type 0
ArePlaced places rep n s t None = item_limit < before (count_at rep n s t) (size_of s)
ArePlaced places rep n s t (Some p) =
    (p.total ≡ before (count_at rep n s t) (size_of s)) × (p.total ≤ item_limit)
    × (p.offsets ≡ offsets_by (count_at rep n s t) (size_of s))
    × (p.lanes ≡ slot_lanes places rep n s t)

-- tuples whose slots stand beside one another
pub record AreTuples (places : Bool) (y : Layout) (total : ℕ) (cs : List Column) (z : Layout)
    : Type 0 where
  pub nodes : List Layout
  pub slots : AreSlots places y cs (length cs) nodes
  pub rows : z ≡ rows_of None total (layouts_from nodes)
  pub valid : IsValid z

-- each lane has so many places
abbrev pub AreOfSize : ℕ → List Column → Type 0
AreOfSize total cs = (j : ℕ) → j < length cs → size_of (get_or cs j no_places) ≡ total
