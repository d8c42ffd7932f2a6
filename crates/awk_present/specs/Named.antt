-- Groups of bytes at the places that an index of groups names.
use Rattle.std.specs.Prelude.{◌≡◌, ℕ, ◌<◌, List, [], map, get_or, length, Some}
use Rattle.awk_lanes.specs.Places.{option_place}
use Rattle.awk_gather_lanes.specs.Moved.{eight}
use Rattle.awk_counts.specs.Counted.{first_of, present_place}

-- the place that group i is, where it is not negative
abbrev pub place_group : List (List ℕ) → ℕ → List ℕ
place_group ps i = present_place (option_place (eight (get_or ps i [])))

-- all these places
abbrev pub named_places : List (List ℕ) → List ℕ
named_places ps = first_of (place_group ps) (length ps)

-- the groups there
abbrev pub named_groups : List (List ℕ) → List (List ℕ) → List (List ℕ)
named_groups gs ps = map (λ k. get_or gs k []) (named_places ps)

-- those that are not negative are places of n groups
abbrev pub ArePlacesOf : ℕ → List (List ℕ) → Type 0
ArePlacesOf n ps =
    (i k : ℕ) → i < length ps → option_place (eight (get_or ps i [])) ≡ Some k → k < n
