-- The numbers of items of which some may be null, by the place in a lane of each.
use Rattle.std.specs.Prelude.{◌≡◌, ℕ, ◌+◌, ◌<◌, ◌≤◌, ◌^◌, ℤ, List, [], ◌∷◌, map, Option, Some, None}
use Rattle.std.specs.List.{range_with_len, flat_map, count_by}
use Rattle.std.specs.Option.{is_some, option_map}
use Rattle.awk_lanes.specs.Column.{Column}
use Rattle.awk_lanes.specs.Places.{size_of, at}

-- the number of item i, or none where it is null
abbrev pub leaf_number : (ℕ → Option ℕ) → Column → ℕ → Option ℤ
leaf_number f c i = option_map (at c) (f i)

abbrev pub number_list : Option ℤ → List ℤ
number_list None = []
number_list (Some z) = z ∷ []

-- the numbers of n items from one on, those of nulls left out
abbrev pub numbers_from : (ℕ → Option ℤ) → ℕ → ℕ → List ℤ
numbers_from g first n = flat_map (λ i. number_list (g i)) (range_with_len first n)

-- how many of n items from one on are not null
abbrev pub present_count : (ℕ → Option ℕ) → ℕ → ℕ → ℕ
present_count f first n = count_by is_some (map f (range_with_len first n))

-- of n items each that is not null has a place among m numbers
abbrev pub AreLeading : (ℕ → Option ℕ) → ℕ → ℕ → Type 0
AreLeading f n m = (i k : ℕ) → i < n → f i ≡ Some k → k < m

-- so many items from a first one on, not too many, of n items whose numbers lie in a lane
pub record AreItems (f : ℕ → Option ℕ) (n : ℕ) (c : Column) (first length : ℕ) : Type 0 where
  pub within : 0 < length → first + length ≤ n
  pub small : first + length < 2 ^ 63
  pub few : length ≤ 1073741824
  pub leads : AreLeading f n (size_of c)

-- the places of so many items from a first one on, be they null or not, lie among m numbers
abbrev pub AreAhead : (ℕ → ℕ) → ℕ → ℕ → ℕ → Type 0
AreAhead f first length m = (i : ℕ) → i < length → f (first + i) < m
