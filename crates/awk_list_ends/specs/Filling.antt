-- Lists that fill a content: one after another, from its first item on to its last.
use Rattle.std.specs.Prelude.{◌≡◌, ℕ, ◌<◌}
use Rattle.awk_lanes.specs.Column.{Column}
use Rattle.awk_lanes.specs.Counted.{before}
use Rattle.awk_lanes.specs.Places.{size_of, place_at}
use Rattle.awk_columns.specs.Lists.{span_length}

-- lists one after another, from the first of n items on to the last
pub record AreFull (s t : Column) (n : ℕ) : Type 0 where
  pub places : (i : ℕ) → i < size_of s → 0 < span_length s t i
      → place_at s i ≡ before (span_length s t) i
  pub whole : before (span_length s t) (size_of s) ≡ n
