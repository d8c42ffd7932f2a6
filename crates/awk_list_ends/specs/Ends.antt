-- Lanes that are made of lists by their starts and stops.
use Rattle.std.specs.Prelude.{◌≡◌, ℕ, ◌==◌, ◌<◌, pos, ◌≤ℤ◌, if◌then◌else◌}
use Rattle.awk_lanes.specs.declared.kind.Kind.TheVariants.{I64}
use Rattle.awk_lanes.specs.Column.{Column}
use Rattle.awk_lanes.specs.Places.{size_of, at, place_at, IsIndexKind}
use Rattle.awk_lanes.specs.Made.{lane_of}
pub use Rattle.awk_columns.specs.Lists.{span_length}

-- ends of lists are places of a lane, where the lists have items
pub record AreListEnds (c s t ends : Column) : Type 0 where
  pub kind : IsIndexKind ends.kind
  pub size : size_of ends ≡ size_of s
  pub places : (i : ℕ) → i < size_of s → 0 < span_length s t i
      → (pos 0 ≤ℤ at ends i) × (place_at ends i < size_of c)

-- the numbers of a lane at ends of lists, and 0 where a list has no items
abbrev pub numbers_at_ends : Column → Column → Column → Column → Column
numbers_at_ends c s t ends =
    lane_of I64 (size_of s)
    (λ i. if span_length s t i == 0 then pos 0 else at c (place_at ends i))
