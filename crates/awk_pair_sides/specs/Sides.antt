-- One level of a pairing, by the values of one row of operands.
use Rattle.std.specs.Prelude.{ℕ, ◌==◌, Bool, true, ◌&&◌, not, List, [], ◌∷◌, map, length}
use Rattle.std.specs.Prelude.{get_or}
use Rattle.std.specs.List.{list_all, flat_map, range_with_len}
use Rattle.awk_types.specs.DataType.{DataType}
use Rattle.awk_types.specs.Value.{Value, null}
use Rattle.awk_columns.specs.Columns.{list_items, is_present}
use Rattle.awk_pair_sides.specs.Levels.{Role, listed, stretched, repeated, roles, some_option}

-- whether no operand of a row is null
abbrev pub is_whole : List Value → Bool
is_whole vs = list_all is_present vs

-- whether a null in any operand makes the whole null
abbrev pub misses : List DataType → List Value → Bool
misses ts vs = some_option ts && not (is_whole vs)

-- what an operand has at a level: the items of a list, or one value at every place
pub data Side : Type 0 where
  each : List Value → Side
  always : Value → Side

abbrev pub side : Role → Value → Side
side (listed c) v = each (list_items v)
side stretched v = always (get_or (list_items v) 0 null)
side repeated v = always v

abbrev pub sides : List Role → List Value → List Side
sides (r ∷ rs) (v ∷ vs) = side r v ∷ sides rs vs
sides rs vs = []

abbrev pub side_at : ℕ → Side → Value
side_at k (each vs) = get_or vs k null
side_at k (always v) = v

abbrev pub side_lengths : Side → List ℕ
side_lengths (each vs) = length vs ∷ []
side_lengths (always v) = []

abbrev pub first_or_zero : List ℕ → ℕ
first_or_zero [] = 0
first_or_zero (n ∷ ns) = n

abbrev pub all_same : List ℕ → Bool
all_same [] = true
all_same (n ∷ ns) = list_all (λ m. n == m) ns

abbrev pub common_length : List Side → ℕ
common_length ss = first_or_zero (flat_map side_lengths ss)

abbrev pub equally_long : List Side → Bool
equally_long ss = all_same (flat_map side_lengths ss)

-- the rows of the items at each place
abbrev pub rows_of : List Side → List (List Value)
rows_of ss = map (λ k. map (side_at k) ss) (range_with_len 0 (common_length ss))

-- ---- a row of operands' values by their types

abbrev pub level_sides : Bool → List DataType → List Value → List Side
level_sides keep ts vs = sides (roles keep ts) vs

-- whether lists that are not stretched differ in length
abbrev pub differ : Bool → List DataType → List Value → Bool
differ keep ts vs = not (equally_long (level_sides keep ts vs))

-- the rows of the items of a row of lists
abbrev pub inner_rows : Bool → List DataType → List Value → List (List Value)
inner_rows keep ts vs = rows_of (level_sides keep ts vs)

abbrev pub inner_length : Bool → List DataType → List Value → ℕ
inner_length keep ts vs = common_length (level_sides keep ts vs)
