-- Masks of bytes as indexes of options.
use Rattle.std.specs.Prelude.{ℕ, Bool, List, [], get_or, length}
use Rattle.awk_lanes.specs.Column.{Column}
use Rattle.awk_lanes.specs.Made.{lane_of}
use Rattle.awk_lanes.specs.Numbers.{number, is_nonzero}
use Rattle.awk_lanes.specs.declared.kind.Kind.TheVariants.{I8, I64}
use Rattle.awk_layout.specs.Item.{agrees}
use Rattle.awk_gather.specs.Peeled.{if_shown}

-- whether the byte of item i, in a group of its own, says that the item is there
abbrev pub group_shows : List (List ℕ) → Bool → ℕ → Bool
group_shows gs valid_when i = agrees valid_when (is_nonzero (number I8 (get_or gs i [])))

-- the place of each item that is there, and -1 for each other one
abbrev pub mask_lane : List (List ℕ) → Bool → Column
mask_lane gs valid_when =
    lane_of I64 (length gs) (λ i. if_shown (group_shows gs valid_when i) i)
