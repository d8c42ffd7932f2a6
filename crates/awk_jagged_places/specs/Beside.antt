-- What stands beside the true items of the lists of a mask.
use Rattle.std.specs.Prelude.{◌≡◌, ℕ, ◌<◌, ◌≤◌, List, [], length, map, get_or, ℤ}
use Rattle.std.specs.Prelude.{Option, Some, None}
use Rattle.std.specs.List.{range_with_len, flat_map}
use Rattle.awk_types.specs.ItemLimit.{item_limit}
use Rattle.awk_lanes.specs.Column.{Column}
use Rattle.awk_lanes.specs.Counted.{before, offsets_by}
use Rattle.awk_lanes.specs.Numbers.{nat_of}
use Rattle.awk_lanes.specs.declared.kind.Kind.TheVariants.{I64}
use Rattle.awk_gather_lanes.specs.Lanes.{picked}
use Rattle.awk_columns.specs.Lists.{Listed}
use Rattle.awk_jagged_places.specs.Leaves.{mask_numbers}
use Rattle.awk_jagged_places.specs.declared.beside.Moved.{Moved}

-- the places that the first n lists give, as a lane
abbrev pub places_beside : Listed → Listed → ℕ → Column
places_beside xs ws n =
    record { kind = I64; items = flat_map (mask_numbers xs ws) (range_with_len 0 n) }

-- the group of bytes at a place
abbrev pub group_at : List (List ℕ) → ℤ → List ℕ
group_at gs z = get_or gs (nat_of z) []

-- those at the places that list i gives
abbrev pub groups_beside : Listed → Listed → List (List ℕ) → ℕ → List (List ℕ)
groups_beside xs ws gs i = map (group_at gs) (mask_numbers xs ws i)

-- r are those at the places that the first n lists give
abbrev pub IsBeside : Listed → Listed → ℕ → List (List ℕ) → List (List ℕ) → Type 0
IsBeside xs ws n gs r = r ≡ map (group_at gs) (places_beside xs ws n).items

-- ---- lists that are moved

-- how many items of list i are true
abbrev pub kept_length : Listed → Listed → ℕ → ℕ
kept_length xs ws i = length (mask_numbers xs ws i)

-- the numbers of a lane beside the true items of the first n lists, and the offsets of these
abbrev pub IsMoved : Listed → Listed → ℕ → Column → Moved → Type 0
IsMoved xs ws n c r =
    (r.offsets ≡ offsets_by (kept_length xs ws) n) × (r.lane ≡ picked c (places_beside xs ws n))

-- lists of these lengths have room, or are together more than a column may have
abbrev pub IsRoom : (ℕ → ℕ) → ℕ → Option ℕ → Type 0
IsRoom m n None = item_limit < before m n
IsRoom m n (Some room) = (before m n ≤ room) × (room ≤ item_limit)
