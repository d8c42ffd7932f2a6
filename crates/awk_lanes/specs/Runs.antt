-- Places in order, told by their bounds.
use Rattle.std.specs.Prelude.{ℕ, ◌+◌, nat_lt, ℤ, pos, negsuc, if◌then◌else◌}

-- the number at a place: so many numbers in order from the first on, and -1 past them
abbrev pub run_at : ℕ → ℕ → ℕ → ℤ
run_at first count i = if nat_lt i count then pos (first + i) else negsuc 0
