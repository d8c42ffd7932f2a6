-- Tuples of places of several lists, slot by slot. The places of list i go from the i-th number of
-- a lane of first places to below the i-th of a lane of ends.
use Rattle.std.specs.Prelude.{◌≡◌, ℕ, ◌+◌, ◌-◌, ◌<◌, Bool, List, [], length, map, get_or, ℤ, pos}
use Rattle.std.specs.Prelude.{◌≤ℤ◌}
use Rattle.std.specs.List.{range_with_len}
use Rattle.awk_lanes.specs.declared.kind.Kind.TheVariants.{I64}
use Rattle.awk_lanes.specs.Column.{Column}
use Rattle.awk_lanes.specs.Counted.{items_lane}
use Rattle.awk_lanes.specs.Places.{size_of, at, place_at}
use Rattle.awk_places.specs.Places.{rising_places}

-- lanes of first places and of ends
pub record ArePlaces (s e : Column) : Type 0 where
  pub first_kind : s.kind ≡ I64
  pub end_kind : e.kind ≡ I64
  pub same_size : size_of s ≡ size_of e
  pub ordered : (i : ℕ) → i < size_of s → (pos 0 ≤ℤ at s i) × (at s i ≤ℤ at e i)

-- the tuples of n places of list i that go up, its first place being 0
abbrev pub tuples_of : Bool → ℕ → Column → Column → ℕ → List (List ℕ)
tuples_of rep n s e i = rising_places rep n (place_at e i - place_at s i)

-- how many they are
abbrev pub tuple_count : Bool → ℕ → Column → Column → ℕ → ℕ
tuple_count rep n s e i = length (tuples_of rep n s e i)

-- the place in slot j of tuple k of list i
abbrev pub slot_place : Bool → ℕ → Column → Column → ℕ → ℕ → ℕ → ℤ
slot_place rep n s e j i k = pos (place_at s i + get_or (get_or (tuples_of rep n s e i) k []) j 0)

-- the places in slot j of all tuples of all lists, in order
abbrev pub slot_lane : Bool → ℕ → Column → Column → ℕ → Column
slot_lane rep n s e j =
    items_lane I64 (tuple_count rep n s e) (slot_place rep n s e j) (size_of s)

-- the lanes of all slots
abbrev pub slot_lanes : Bool → ℕ → Column → Column → List Column
slot_lanes rep n s e = map (slot_lane rep n s e) (range_with_len 0 n)
