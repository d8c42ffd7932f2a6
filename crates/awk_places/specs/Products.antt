-- One place of each of several lists, by lanes of their lengths, the last varying fastest. The
-- places of list i begin at the i-th number of a lane of first places.
use Rattle.std.specs.Prelude.{◌≡◌, ◌==◌, ℕ, zero, suc, ◌+◌, ◌/◌, ◌<◌, ◌^◌, if◌then◌else◌}
use Rattle.std.specs.Prelude.{List, [], ◌++◌, length, map, get_or, replicate, ℤ, pos, ◌≤ℤ◌}
use Rattle.std.specs.List.{range_with_len, flat_map}
use Rattle.awk_lanes.specs.declared.kind.Kind.TheVariants.{I64}
use Rattle.awk_lanes.specs.Column.{Column, no_places}
use Rattle.awk_lanes.specs.Counted.{items_lane}
use Rattle.awk_lanes.specs.Made.{lane_of}
use Rattle.awk_lanes.specs.Places.{size_of, at, place_at}
use Rattle.awk_places.specs.Places.{place_lists, place_count}

-- a number for each of n lists, of which none is negative
pub record AreCounts (n : ℕ) (s : Column) : Type 0 where
  pub kind : s.kind ≡ I64
  pub size : size_of s ≡ n
  pub positive : (i : ℕ) → i < n → pos 0 ≤ℤ at s i

-- first places and lengths of n lists, whose places are those of a lane
pub record AreSpansOf (n : ℕ) (f l : Column) : Type 0 where
  pub firsts : AreCounts n f
  pub lengths : AreCounts n l
  pub fits : (i : ℕ) → i < n → place_at f i + place_at l i < 2 ^ 63

-- the lengths of list i, one of each lane
abbrev pub lengths_at : List Column → ℕ → List ℕ
lengths_at ls i = map (λ s. place_at s i) ls

-- how many tuples there are of one place of list i of each
abbrev pub product_count : List Column → ℕ → ℕ
product_count ls i = place_count (lengths_at ls i)

-- the place in slot j of tuple k of them
abbrev pub product_place : Column → List Column → ℕ → ℕ → ℕ → ℤ
product_place f ls j i k =
    pos (place_at f i + get_or (get_or (place_lists (lengths_at ls i)) k []) j 0)

-- the places in slot j of the tuples of all n lists, in order
abbrev pub product_lane : ℕ → Column → List Column → ℕ → Column
product_lane n f ls j = items_lane I64 (product_count ls) (product_place f ls j) n

-- those of each slot
abbrev pub product_lanes : ℕ → List Column → List Column → List Column
product_lanes n fs ls =
    map (λ j. product_lane n (get_or fs j no_places) ls j) (range_with_len 0 (length ls))

-- ---- the same by runs

-- n places from a first one, each so many times
abbrev pub each_times : ℕ → ℕ → ℕ → List ℕ
each_times m a n = flat_map (λ k. replicate m k) (range_with_len a n)

-- a list so many times
abbrev pub times : ℕ → List ℕ → List ℕ
times zero xs = []
times (suc n) xs = xs ++ times n xs

-- how many of a count fall to each of so many parts
abbrev pub share : ℕ → ℕ → ℕ
share count parts = if parts == 0 then 0 else count / parts

-- how many tuples each list has, and how many of a count fall to each part
abbrev pub counts_lane : ℕ → List Column → Column
counts_lane n ls = lane_of I64 n (λ i. pos (product_count ls i))

abbrev pub shares_lane : ℕ → Column → Column → Column
shares_lane n c p = lane_of I64 n (λ i. pos (share (place_at c i) (place_at p i)))

-- one for each of n lists
abbrev pub once_lane : ℕ → Column
once_lane n = lane_of I64 n (λ i. pos 1)
