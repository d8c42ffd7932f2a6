-- How many items of an option are not null.
use Rattle.std.specs.Prelude.{◌+◌, length, pos}
use Rattle.awk_lanes.specs.Column.{Column}
use Rattle.awk_lanes.specs.Made.{lane_of}
use Rattle.awk_lanes.specs.Places.{size_of}
use Rattle.awk_lanes.specs.declared.kind.Kind.TheVariants.{I64}
use Rattle.awk_counts.specs.Counted.{first_of, present_at}

-- how many of the first items of an option are present
abbrev pub present_lane : Column → Column
present_lane j = lane_of I64 (size_of j + 1) (λ i. pos (length (first_of (present_at j) i)))
