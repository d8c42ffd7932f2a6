-- What is made of rows, put under the level that they are of.
use Rattle.std.specs.Prelude.{◌≡◌, ◌<◌, ◌≤◌, ◌^◌, Option, Some, None, IfSome}
use Rattle.awk_lanes.specs.Column.{Column}
use Rattle.awk_lanes.specs.Places.{size_of, IsOffsets, IsOptionalIndex}
use Rattle.awk_layout.specs.Layout.{Layout, offset_lists, optional}
use Rattle.awk_layout.specs.Valid.{len}
use Rattle.awk_jagged.specs.declared.leaves.Outcome.{Outcome}
use Rattle.awk_jagged.specs.declared.leaves.Outcome.TheVariants as outcome
use Rattle.awk_jagged_rows.specs.declared.levels.Rows.{Rows}

-- rows over what they hold, of which some may be null
abbrev pub row_layout : Option Column → Column → Layout → Layout
row_layout None o y = offset_lists o y
row_layout (Some j) o y = optional j (offset_lists o y)

-- an index of rows may be over what is made
pub record Holds (idx : Option Column) (o : Column) (y : Layout) : Type 0 where
  pub length : size_of o ≤ 2 ^ 63
  pub valid : IsOffsets o (len y)
  pub index : IfSome idx
      (λ j. (size_of j < 2 ^ 63) × IsOptionalIndex j (len (offset_lists o y)))

abbrev pub CanHold : Option Column → Outcome → Type 0
CanHold index (outcome.Lists o y) = Holds index o y
CanHold index outcome.Uneven = Unit {0}
CanHold index outcome.Outside = Unit {0}
CanHold index outcome.TooMany = Unit {0}

-- what is made with the level over it
abbrev pub IsOver : Rows → Outcome → Outcome → Type 0
IsOver r (outcome.Lists o y) made = made ≡ outcome.Lists r.offsets (row_layout r.index o y)
IsOver r outcome.Uneven made = made ≡ outcome.Uneven
IsOver r outcome.Outside made = made ≡ outcome.Outside
IsOver r outcome.TooMany made = made ≡ outcome.TooMany
