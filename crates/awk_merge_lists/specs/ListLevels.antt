-- A level of lists that are merged: lanes into all items, and the columns of items.
use Rattle.std.specs.Prelude.{◌≡◌, ◌-◌, ◌*◌, ◌<◌, ◌^◌, ℕ, List, get_or, length}
use Rattle.awk_types.specs.DataType.{DataType, reg, var}
use Rattle.awk_types.specs.Value.{Value, null, list}
use Rattle.awk_lanes.specs.Places.{size_of, place_at, AreSpans}
use Rattle.awk_layout.specs.Item.{run}
use Rattle.awk_merge_sides.specs.Sides.{Side, sides_of, merged_items, AreSides, IsCounted}
use Rattle.awk_merge_sides.specs.declared.sides.Sides.{Sides}
use Rattle.awk_merge_lists.specs.declared.lists.ListLevel.{ListLevel}

-- columns whose values become lists of any length, or lists of one
abbrev pub AreListSides : List Side → Type 0
AreListSides ss = (u : DataType) × AreSides (var u) ss

abbrev pub AreRegularSides : List Side → Type 0
AreRegularSides ss = (n : ℕ) × ((u : DataType) × AreSides (reg n u) ss)

-- the values from a start on, so many
abbrev pub cut : List Value → ℕ → ℕ → Value
cut vs first n = list (run (λ i. get_or vs i null) first n)

pub record IsListLevel (u : DataType) (ss : List Side) (r : ListLevel) : Type 0 where
  pub sides : AreSides u (sides_of r.sides)
  pub counted : IsCounted r.sides
  pub fits : size_of r.starts < 2 ^ 63
  pub spans : AreSpans r.starts r.stops (length (merged_items (sides_of r.sides)))
  pub size : length (merged_items ss) ≡ size_of r.starts
  pub items : (i : ℕ) → i < size_of r.starts → get_or (merged_items ss) i null
      ≡ cut (merged_items (sides_of r.sides)) (place_at r.starts i)
      (place_at r.stops i - place_at r.starts i)

pub record IsRegularLevel (n : ℕ) (u : DataType) (ss : List Side) (r : Sides) : Type 0 where
  pub sides : AreSides u (sides_of r)
  pub counted : IsCounted r
  pub size : length (merged_items (sides_of r)) ≡ length (merged_items ss) * n
  pub items : (i : ℕ) → i < length (merged_items ss) → get_or (merged_items ss) i null
      ≡ cut (merged_items (sides_of r)) (i * n) n
