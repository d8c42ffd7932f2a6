-- Where the places of lists begin and end: in the content, or in each list by itself.
use Rattle.std.specs.Prelude.{◌==◌, ℕ, ◌+◌, Bool, if◌then◌else◌, List, [], length, map, get_or}
use Rattle.std.specs.Prelude.{ℤ, pos}
use Rattle.std.specs.List.{range_with_len}
use Rattle.awk_lanes.specs.declared.kind.Kind.TheVariants.{I64}
use Rattle.awk_lanes.specs.Column.{Column}
use Rattle.awk_lanes.specs.Counted.{items_lane}
use Rattle.awk_lanes.specs.Made.{lane_of}
use Rattle.awk_lanes.specs.Places.{size_of, place_at}
use Rattle.awk_columns.specs.Lists.{span_length}
use Rattle.awk_places.specs.Places.{rising_places}

-- the first place of list i: in itself 0, and so where it is empty
abbrev pub first_place : Bool → Column → Column → ℕ → ℕ
first_place places s t i =
    if places then 0 else if span_length s t i == 0 then 0 else place_at s i

abbrev pub end_place : Bool → Column → Column → ℕ → ℕ
end_place places s t i = first_place places s t i + span_length s t i

abbrev pub first_lane : Bool → Column → Column → Column
first_lane places s t = lane_of I64 (size_of s) (λ i. pos (first_place places s t i))

abbrev pub end_lane : Bool → Column → Column → Column
end_lane places s t = lane_of I64 (size_of s) (λ i. pos (end_place places s t i))

-- the tuples of list i, by places in itself
abbrev pub tuples_at : Bool → ℕ → Column → Column → ℕ → List (List ℕ)
tuples_at rep n s t i = rising_places rep n (span_length s t i)

abbrev pub count_at : Bool → ℕ → Column → Column → ℕ → ℕ
count_at rep n s t i = length (tuples_at rep n s t i)

-- the place in slot j of tuple k of list i
abbrev pub place_in : Bool → Bool → ℕ → Column → Column → ℕ → ℕ → ℕ → ℤ
place_in places rep n s t j i k =
    pos (first_place places s t i + get_or (get_or (tuples_at rep n s t i) k []) j 0)

-- the places of slot j, of all tuples of all lists
abbrev pub slot_lane : Bool → Bool → ℕ → Column → Column → ℕ → Column
slot_lane places rep n s t j =
    items_lane I64 (count_at rep n s t) (place_in places rep n s t j) (size_of s)

abbrev pub slot_lanes : Bool → Bool → ℕ → Column → Column → List Column
slot_lanes places rep n s t = map (slot_lane places rep n s t) (range_with_len 0 n)
