-- All counts of a histogram together.
use Rattle.std.specs.Prelude.{◌≡◌, ℕ, Bool, true, false, map, length}
use Rattle.std.specs.List.{sum}
use Rattle.awk_types.specs.Datum.{Datum, arr, one}
use Rattle.awk_types.specs.Value.{Value, int, list, row, value_list}
use Rattle.awk_lanes.specs.Numbers.{nat_of}
use Rattle.awk_layout.specs.Shown.{count_of}
use Rattle.awk_hist.specs.Hist.{leaves_of}

-- a count, or those of a list
abbrev pub counts_in : Value → ℕ
counts_in (int z) = nat_of z
counts_in (list vs) = sum (map count_of (value_list vs))
counts_in v = 0

abbrev pub row_total : Value → ℕ
row_total (row vs) = sum (map counts_in (value_list vs))
row_total v = 0

abbrev pub counts_total : Datum → ℕ
counts_total (one t v) = row_total v
counts_total (arr t vs) = 0

-- in the histogram of all leaves each leaf and each null list is counted once
abbrev pub CountsAll : Bool → Datum → Datum → Type 0
CountsAll true d made = Unit {0}
CountsAll false d made = counts_total made ≡ length (leaves_of d)
