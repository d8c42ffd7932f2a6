-- The most items of a column, and the fault of more.
use Rattle.std.specs.Prelude.{ℕ, nat_lt, Option, Some, None, if◌then◌else◌}
use Rattle.awk_types.specs.declared.fault.Fault.{Fault}
use Rattle.awk_types.specs.declared.fault.Fault.TheVariants.{Size}

abbrev pub item_limit : ℕ
item_limit = 1073741824

-- a column of n items
abbrev pub too_many : ℕ → Option Fault
too_many n = if nat_lt item_limit n then Some Size else None
