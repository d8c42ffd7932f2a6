-- An index of lists whose nulls come last.
use Rattle.std.specs.Prelude.{◌≡◌, ℕ, ◌+◌, ◌-◌, ◌<◌, ◌^◌, nat_lt, ℤ, pos, negsuc, if◌then◌else◌}
use Rattle.awk_types.specs.ItemLimit.{item_limit}
use Rattle.awk_lanes.specs.Column.{Column}
use Rattle.awk_lanes.specs.Counted.{items_lane}
use Rattle.awk_lanes.specs.Places.{place_at}
use Rattle.awk_lanes.specs.declared.kind.Kind.TheVariants.{I64}
use Rattle.awk_parts.specs.Parts.{AreRising}

-- how many items list i has
abbrev pub length_at : Column → ℕ → ℕ
length_at o i = place_at o (i + 1) - place_at o i

-- the place of item k of list i among those that are present, or -1 after them
abbrev pub place_or_null : Column → ℕ → ℕ → ℤ
place_or_null p i k = if nat_lt k (length_at p i) then pos (place_at p i + k) else negsuc 0

-- of n lists
abbrev pub nulls_last : Column → Column → ℕ → Column
nulls_last o p n = items_lane I64 (length_at o) (place_or_null p) n

-- offsets of n lists and of their items that are present
pub record AreNullsReady (o p : Column) (n : ℕ) : Type 0 where
  pub all : AreRising o n item_limit
  pub some : AreRising p n item_limit
  pub first : place_at o 0 ≡ 0
  pub fits : n < 2 ^ 63
