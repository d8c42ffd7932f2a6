-- A number for each part: what it comes to, and where its extreme stands.
use Rattle.std.specs.Prelude.{ℕ, ℤ, pos, Option, Some, None, List, [], ◌∷◌}
use Rattle.awk_numbers.specs.Folds.{folded, tallied, first_extreme}
use Rattle.awk_numbers.specs.declared.extremes.Extreme.{Extreme}
use Rattle.awk_numbers.specs.declared.folds.Fold.{Fold}
use Rattle.awk_numbers.specs.declared.tallies.Tally.{Tally}
use Rattle.awk_cells.specs.Extremes.{number_or_zero}
use Rattle.awk_parts.specs.Spans.{span_part}
use Rattle.awk_parts.specs.declared.parts.Spans.{Spans}

abbrev pub folded_at : Fold → List ℤ → Spans → ℕ → ℤ
folded_at how zs p i = folded how (span_part zs p i)

abbrev pub tallied_at : Tally → List ℤ → Spans → ℕ → ℤ
tallied_at how zs p i = tallied how (span_part zs p i)

-- ---- extremes

-- a place as a number, and 0 for none
abbrev pub place_or_zero : Option ℕ → ℤ
place_or_zero None = pos 0
place_or_zero (Some k) = pos k

-- the extreme of part i, and 0 where this has no number
abbrev pub extreme_at : Extreme → List ℤ → Spans → ℕ → ℤ
extreme_at how zs p i =
    let part = span_part zs p i in
    number_or_zero part (first_extreme how part)

-- where in part i its extreme stands, and 0 where this has no number
abbrev pub local_at : Extreme → List ℤ → Spans → ℕ → ℤ
local_at how zs p i = place_or_zero (first_extreme how (span_part zs p i))

-- the first place of numbers, if there are some
abbrev pub some_place : List ℤ → Option ℕ
some_place [] = None
some_place (z ∷ zs) = Some 0

-- the byte of a mask for an item: 1 where it is there, else 0
abbrev pub mask_byte : Option ℕ → ℤ
mask_byte None = pos 0
mask_byte (Some k) = pos 1

-- 1 where part i has a number, else 0
abbrev pub present_at : List ℤ → Spans → ℕ → ℤ
present_at zs p i = mask_byte (some_place (span_part zs p i))
