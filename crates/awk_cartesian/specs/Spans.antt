-- The first places and lengths of rows, each of which is a list by an index, or null.
use Rattle.std.specs.Prelude.{◌==◌, ℕ, if◌then◌else◌, Option, Some, None, pos, negsuc, ℤ}
use Rattle.awk_lanes.specs.declared.kind.Kind.TheVariants.{I64}
use Rattle.awk_lanes.specs.Column.{Column}
use Rattle.awk_lanes.specs.Made.{lane_of}
use Rattle.awk_lanes.specs.Places.{place_at}
use Rattle.awk_columns.specs.Lists.{span_length}
use Rattle.awk_merge_operands.specs.Operands.{list_place}

-- where a list begins, but 0 where it is empty or null
abbrev pub first_of : Column → Column → Option ℕ → ℕ
first_of s t None = 0
first_of s t (Some p) = if span_length s t p == 0 then 0 else place_at s p

abbrev pub length_of : Column → Column → Option ℕ → ℕ
length_of s t None = 0
length_of s t (Some p) = span_length s t p

-- those of each row
abbrev pub first_lane : Option Column → Column → Column → ℕ → Column
first_lane index s t n = lane_of I64 n (λ i. pos (first_of s t (list_place index i)))

abbrev pub length_lane : Option Column → Column → Column → ℕ → Column
length_lane index s t n = lane_of I64 n (λ i. pos (length_of s t (list_place index i)))

-- the place of a row that is null in neither, and -1 for another
abbrev pub place_in_both : ℕ → Option ℕ → Option ℕ → ℤ
place_in_both i (Some p) (Some q) = pos i
place_in_both i a b = negsuc 0

abbrev pub both_lane : Option Column → Option Column → ℕ → Column
both_lane a b n = lane_of I64 n (λ i. place_in_both i (list_place a i) (list_place b i))
