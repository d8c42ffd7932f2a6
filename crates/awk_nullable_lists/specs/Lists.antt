-- A number for each list of leaves of which some may be null.
use Rattle.std.specs.Prelude.{◌≡◌, ℕ, ◌<◌, ◌≤◌, ℤ, pos, List, Option, Some, None}
use Rattle.awk_lanes.specs.Column.{Column}
use Rattle.awk_lanes.specs.Places.{size_of, place_at}
use Rattle.awk_layout.specs.Valid.{len}
use Rattle.awk_columns.specs.Lists.{Listed, span_length}
use Rattle.awk_numbers.specs.Folds.{folded, tallied, extreme_of}
use Rattle.awk_numbers.specs.declared.extremes.Extreme.{Extreme}
use Rattle.awk_numbers.specs.declared.folds.Fold.{Fold}
use Rattle.awk_numbers.specs.declared.tallies.Tally.{Tally}
use Rattle.awk_parts.specs.Lanes.{mask_byte, place_or_zero, some_place}
use Rattle.awk_nullable.specs.Extremes.{extreme_place}
use Rattle.awk_nullable.specs.Numbers.{numbers_from, AreLeading}

-- lists, none too long, whose items have their numbers in a lane
pub record AreNullable (l : Listed) (f : ℕ → Option ℕ) (n : ℕ) (c : Column) : Type 0 where
  pub size : n ≡ len l.content
  pub leads : AreLeading f n (size_of c)
  pub few : (i : ℕ) → i < size_of l.starts → span_length l.starts l.stops i ≤ 1073741824

-- the numbers of list i
abbrev pub numbers_at : Listed → (ℕ → Option ℤ) → ℕ → List ℤ
numbers_at l g i = numbers_from g (place_at l.starts i) (span_length l.starts l.stops i)

abbrev pub folded_at : Fold → Listed → (ℕ → Option ℤ) → ℕ → ℤ
folded_at how l g i = folded how (numbers_at l g i)

abbrev pub tallied_at : Tally → Listed → (ℕ → Option ℤ) → ℕ → ℤ
tallied_at how l g i = tallied how (numbers_at l g i)

-- a number, and 0 for none
abbrev pub or_zero : Option ℤ → ℤ
or_zero None = pos 0
or_zero (Some z) = z

abbrev pub extreme_at : Extreme → Listed → (ℕ → Option ℤ) → ℕ → ℤ
extreme_at how l g i = or_zero (extreme_of how (numbers_at l g i))

-- the place of the extreme in list i, nulls counted, and 0 where all are null
abbrev pub local_at : Extreme → Listed → (ℕ → Option ℤ) → ℕ → ℤ
local_at how l g i =
    place_or_zero (extreme_place how g (place_at l.starts i) (span_length l.starts l.stops i))

-- 1 where list i has a number, else 0
abbrev pub present_at : Listed → (ℕ → Option ℤ) → ℕ → ℤ
present_at l g i = mask_byte (some_place (numbers_at l g i))
