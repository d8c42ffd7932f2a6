-- The extreme of numbers that fit an i64, each of a group of bytes.
use Rattle.std.specs.Prelude.{◌≡◌, ℕ, ◌<◌, ℤ, pos, neg_ℤ, ◌+ℤ◌, ◌*ℤ◌, List, length, map, get_or}
use Rattle.std.specs.Prelude.{Option, Some, None, false, if◌then◌else◌}
use Rattle.awk_numbers.specs.Folds.{beats, first_extreme}
use Rattle.awk_numbers.specs.declared.extremes.Extreme.{Extreme}
use Rattle.awk_numbers.specs.declared.extremes.Extreme.TheVariants.{Least, Greatest}
use Rattle.awk_cells.specs.declared.extremes.Best.{Best}

-- the better one of the best so far and the next number
abbrev pub better_of : Extreme → Best → Best → Best
better_of how old next = if beats how next.number old.number then next else old

-- the better one of two numbers
abbrev pub better_number : Extreme → ℤ → ℤ → ℤ
better_number how old next = if beats how next old then next else old

-- the extreme, and the first of its places
pub record IsBest (how : Extreme) (f : List ℕ → ℤ) (gs : List (List ℕ)) (b : Best) : Type 0 where
  pub inside : b.place < length gs
  pub found : get_or (map f gs) b.place (pos 0) ≡ b.number
  pub first : first_extreme how (map f gs) ≡ Some b.place

-- the number at a place, and 0 for none
abbrev pub number_or_zero : List ℤ → Option ℕ → ℤ
number_or_zero zs None = pos 0
number_or_zero zs (Some k) = get_or zs k (pos 0)

-- one of the numbers, which none beats
pub record IsExtreme (how : Extreme) (zs : List ℤ) (z : ℤ) : Type 0 where
  pub place : ℕ
  pub inside : place < length zs
  pub found : get_or zs place (pos 0) ≡ z
  pub bound : (k : ℕ) → k < length zs → beats how (get_or zs k (pos 0)) z ≡ false

-- ---- a number and its place in one

-- a number, turned round where the greatest is looked for
abbrev pub turned : Extreme → ℤ → ℤ
turned Least z = z
turned Greatest z = neg_ℤ z

abbrev pub packed : Extreme → ℤ → ℕ → ℤ
packed how z place = pos place +ℤ turned how z *ℤ pos 4294967296
