-- How a lane holds its numbers.
use Rattle.awk_lanes.specs.Column.{Column}
use Rattle.awk_lanes.specs.declared.lane.Held.{Held}
use Rattle.awk_lanes.specs.declared.lane.Held.TheVariants.{Bytes, Run}

-- the numbers, however they are held
abbrev pub held_column : Held → Column
held_column (Bytes c) = c
held_column (Run c) = c
