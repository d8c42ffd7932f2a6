-- The index of an option over the present items alone, in 32 bits where these hold its counts.
use Rattle.std.specs.Prelude.{ℕ, ◌<◌, ◌^◌, nat_lt, if◌then◌else◌}
use Rattle.awk_lanes.specs.declared.kind.Kind.{Kind}
use Rattle.awk_lanes.specs.declared.kind.Kind.TheVariants.{I32, I64}
use Rattle.awk_lanes.specs.Column.{Column}
use Rattle.awk_lanes.specs.Made.{lane_of}
use Rattle.awk_lanes.specs.Places.{size_of}
use Rattle.awk_counts.specs.Counted.{counted_at}

-- the kind of an index of n items, each count of which is below n
abbrev pub narrow_kind : ℕ → Kind
narrow_kind n = if nat_lt n 2147483648 then I32 else I64

abbrev pub narrow_lane : Column → Column
narrow_lane j = lane_of (narrow_kind (size_of j)) (size_of j) (counted_at j)

-- a kind of index holds each count up to n, and -1
abbrev pub HoldsCounts : ℕ → Kind → Type 0
HoldsCounts n I32 = n < 2147483648
HoldsCounts n I64 = n < 2 ^ 63
HoldsCounts n _ = ⊥
