-- Tuples that are begun: what they can be continued with.
use Rattle.std.specs.Prelude.{ℕ, ◌-◌, ◌<◌, ◌≤◌, ◌^◌, Bool, if◌then◌else◌, List, map, length}
use Rattle.std.specs.Prelude.{replicate}
use Rattle.std.specs.List.{range_with_len, flat_map}
use Rattle.awk_types.specs.ItemLimit.{item_limit}
use Rattle.awk_lanes.specs.Column.{Column}
use Rattle.awk_lanes.specs.Places.{size_of, place_at}
use Rattle.awk_places.specs.Places.{next_place, next_after, places_from, rising_from}
use Rattle.awk_places.specs.Places.{rising_places}
use Rattle.awk_places.specs.declared.begun.Begun.{Begun}

-- how many places the slots that are left need for themselves
abbrev pub reserved : Bool → ℕ → ℕ
reserved rep left = if rep then 0 else left

-- each with a place that may follow
abbrev pub longer : Bool → ℕ → Begun → List Begun
longer rep left b =
    map (λ k. record { least = next_place rep k; stop = b.stop })
    (places_from b.least (b.stop - reserved rep left))

-- how many tuples of so many further places there are
abbrev pub rest_count : Bool → ℕ → ℕ → ℕ → ℕ
rest_count rep left least stop = length (rising_places rep left (stop - least))

-- the last of the first places
abbrev pub last_place : Bool → ℕ → ℕ
last_place rep least = least - reserved rep 1

-- that place for each of these tuples
abbrev pub again : Bool → ℕ → Begun → List ℕ
again rep left b = replicate (rest_count rep left b.least b.stop) (last_place rep b.least)

-- the places that may follow last
abbrev pub places_of : Begun → List ℕ
places_of b = places_from b.least b.stop

-- each place that may follow, as often as one more may follow it, and the places that may
abbrev pub pair_firsts : Bool → Begun → List ℕ
pair_firsts rep b = flat_map (again rep 1) (longer rep 1 b)

abbrev pub pair_seconds : Bool → Begun → List ℕ
pair_seconds rep b = flat_map places_of (longer rep 1 b)

-- the places are those of a lane
abbrev pub Fits : Begun → Type 0
Fits b = (b.least ≤ b.stop) × (b.stop < 2 ^ 63)

-- the tuples are no more than a column may have
abbrev pub IsFew : Bool → ℕ → Begun → Type 0
IsFew rep left b = rest_count rep left b.least b.stop ≤ item_limit

-- the first j places of the tuples of j and `left` more places of list i
abbrev pub begun_by : Bool → ℕ → ℕ → List ℕ → Begun
begun_by rep first stop ks = record { least = next_after rep first ks; stop = stop }

abbrev pub begun_of : Bool → ℕ → ℕ → Column → Column → ℕ → List Begun
begun_of rep j left s e i =
    map (begun_by rep (place_at s i) (place_at e i))
    (rising_from rep j (place_at s i) (place_at e i - reserved rep left))

-- those of all lists
abbrev pub all_begun : Bool → ℕ → ℕ → Column → Column → List Begun
all_begun rep j left s e = flat_map (begun_of rep j left s e) (range_with_len 0 (size_of s))

-- list i with no place of a tuple yet
abbrev pub first_begun : Column → Column → ℕ → Begun
first_begun s e i = record { least = place_at s i; stop = place_at e i }

-- the places in both slots of the pairs of list i
abbrev pub first_places : Bool → Column → Column → ℕ → List ℕ
first_places rep s e i = pair_firsts rep (first_begun s e i)

abbrev pub second_places : Bool → Column → Column → ℕ → List ℕ
second_places rep s e i = pair_seconds rep (first_begun s e i)
