-- A part of a lane.
use Rattle.std.specs.Prelude.{ℕ, slice_range}
use Rattle.awk_lanes.specs.Column.{Column}

-- the numbers from place lo below place hi
abbrev pub cut_of : Column → ℕ → ℕ → Column
cut_of c lo hi = record { kind = c.kind; items = slice_range c.items lo hi }
