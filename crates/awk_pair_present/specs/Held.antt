-- How the index of an option is held.
use Rattle.awk_lanes.specs.Column.{Column}
use Rattle.awk_pair_present.specs.declared.option_places.Held.{Held}
use Rattle.awk_pair_present.specs.declared.option_places.Held.TheVariants.{Wide, Narrow, Mask}

-- its numbers, however they are held
abbrev pub held_index : Held → Column
held_index (Wide j) = j
held_index (Narrow j) = j
held_index (Mask j) = j
