-- The innermost picks: the places in a content that masks and indexes name, list by list.
use Rattle.std.specs.Prelude.{◌≡◌, ℕ, ◌+◌, ◌<◌, ℤ, negsuc, Bool, true, false, List, map}
use Rattle.std.specs.Prelude.{Option, Some, None, option_map}
use Rattle.std.specs.List.{range_with_len, flat_map}
use Rattle.awk_lanes.specs.Column.{Column}
use Rattle.awk_lanes.specs.Places.{size_of, at, place_at}
use Rattle.awk_columns.specs.Lists.{Listed, length_of}
use Rattle.awk_select.specs.Cells.{AreCells, place_number}
use Rattle.awk_select.specs.Picks.{mask_place, take_place, is_outside}
use Rattle.awk_select.specs.declared.cells.Cells.{Cells}
use Rattle.awk_jagged_rows.specs.Levels.{row_at}
use Rattle.awk_jagged_rows.specs.Rows.{place_by}

-- pairs of lists, with the values of the second ones
pub record AreLeaves (xs ws : Listed) (c : Cells) : Type 0 where
  pub pairs : size_of xs.starts ≡ size_of ws.starts
  pub cells : AreCells ws.content c

-- ---- places

-- where item k of list i of an index points to in the content
abbrev pub take_in : Listed → Listed → ℕ → ℕ → Option ℕ
take_in xs ws i k =
    option_map (λ p. place_at xs.starts i + p) (take_place (length_of xs i) (row_at ws i k))

abbrev pub take_at : Listed → Listed → ℕ → ℕ → ℤ
take_at xs ws i k = place_number (take_in xs ws i k)

abbrev pub take_numbers : Listed → Listed → ℕ → List ℤ
take_numbers xs ws i = map (take_at xs ws i) (range_with_len 0 (length_of ws i))

-- the number of a content at a place, and -1 at none
abbrev pub number_or : Column → Option ℕ → ℤ
number_or c None = negsuc 0
number_or c (Some k) = at c k

-- the number of a content that item k of list i of an index names
abbrev pub number_taken : Listed → Listed → Column → ℕ → ℕ → ℤ
number_taken xs ws c i k = number_or c (take_in xs ws i k)

abbrev pub numbers_taken : Listed → Listed → Column → ℕ → List ℤ
numbers_taken xs ws c i = map (number_taken xs ws c i) (range_with_len 0 (length_of ws i))

-- whether item k of list i of an index names no place
abbrev pub is_outside_at : Listed → Listed → ℕ → ℕ → Bool
is_outside_at xs ws i k = is_outside (length_of xs i) (row_at ws i k)

-- some item of list i names no place of its list, or all do
abbrev pub AreTestedIn : Listed → Listed → ℕ → Bool → Type 0
AreTestedIn xs ws i true = (k : ℕ) × (k < length_of ws i) × (is_outside_at xs ws i k ≡ true)
AreTestedIn xs ws i false = (k : ℕ) → k < length_of ws i → is_outside_at xs ws i k ≡ false

-- the same of some list, or of all
abbrev pub AreTested : Listed → Listed → Bool → Type 0
AreTested xs ws true = (i : ℕ) × (i < size_of ws.starts) × AreTestedIn xs ws i true
AreTested xs ws false = (i : ℕ) → i < size_of ws.starts → AreTestedIn xs ws i false

-- ---- masks

-- what item k of list i of a mask gives
abbrev pub mask_at : Listed → Listed → ℕ → ℕ → List ℤ
mask_at xs ws i k = map place_number (mask_place (place_by xs i k) (row_at ws i k))

-- what the first k items of list i give
abbrev pub mask_first : Listed → Listed → ℕ → ℕ → List ℤ
mask_first xs ws i k = flat_map (mask_at xs ws i) (range_with_len 0 k)

abbrev pub mask_numbers : Listed → Listed → ℕ → List ℤ
mask_numbers xs ws i = mask_first xs ws i (length_of ws i)
