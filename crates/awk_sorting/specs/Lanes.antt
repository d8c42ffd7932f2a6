-- A lane whose parts are those of another in order.
use Rattle.std.specs.Prelude.{◌≡◌, ℕ, ◌<◌, Bool}
use Rattle.awk_lanes.specs.Column.{Column}
use Rattle.awk_lanes.specs.Places.{size_of}
use Rattle.awk_numbers.specs.Folds.{lane_numbers}
use Rattle.awk_parts.specs.Parts.{part_at}
use Rattle.awk_sorting.specs.Order.{sort_numbers}

-- of the first n parts, by offsets
pub record SortsLane (up : Bool) (o : Column) (n : ℕ) (c r : Column) : Type 0 where
  pub kind : r.kind ≡ c.kind
  pub size : size_of r ≡ size_of c
  pub parts : (i : ℕ) → i < n
      → part_at (lane_numbers r) o i ≡ sort_numbers up (part_at (lane_numbers c) o i)
