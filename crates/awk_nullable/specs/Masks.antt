-- Masks of bytes and of bits as places.
use Rattle.std.specs.Prelude.{ℕ, Bool, true, false, List, [], get_or, Option, Some, None}
use Rattle.awk_lanes.specs.Numbers.{number, is_nonzero}
use Rattle.awk_lanes.specs.declared.kind.Kind.TheVariants.{I8}
use Rattle.awk_layout.specs.Item.{agrees, bit_shows}

-- the place of an item, if that is there
abbrev pub if_shown : Bool → ℕ → Option ℕ
if_shown true i = Some i
if_shown false i = None

-- by the bytes of a mask, each in a group of its own
abbrev pub byte_place : List (List ℕ) → Bool → ℕ → Option ℕ
byte_place gs valid_when i =
    if_shown (agrees valid_when (is_nonzero (number I8 (get_or gs i [])))) i

-- by its bits
abbrev pub bit_place : List Bool → Bool → ℕ → Option ℕ
bit_place bs valid_when i = if_shown (bit_shows bs valid_when i) i
