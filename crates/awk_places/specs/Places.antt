-- Lists of places: one of each of several lists, and those of one list that go up.
use Rattle.std.specs.Prelude.{◌≡◌, ℕ, zero, suc, ◌+◌, ◌-◌, ◌*◌, ◌<◌, ◌≤◌, Option, Some, None, Bool}
use Rattle.std.specs.Prelude.{true, ◌&&◌, nat_le, if◌then◌else◌}
use Rattle.std.specs.Prelude.{List, [], ◌∷◌, ◌++◌, map, filter}
use Rattle.std.specs.List.{range_with_len, flat_map}
use Rattle.awk_types.specs.ItemLimit.{item_limit}

-- a first place before each list of places
abbrev pub before_each : ℕ → List (List ℕ) → List (List ℕ)
before_each k kss = map (λ ks. k ∷ ks) kss

-- ---- one place of each of several lists, the last varying fastest

-- by the lengths of the lists
abbrev pub place_lists : List ℕ → List (List ℕ)
place_lists [] = [] ∷ []
place_lists (m ∷ ms) = flat_map (λ k. before_each k (place_lists ms)) (range_with_len 0 m)

-- ---- n places of one list that go up

-- all lists of n places of m items, in lexicographic order
abbrev pub all_places : ℕ → ℕ → List (List ℕ)
all_places zero m = [] ∷ []
all_places (suc n) m = flat_map (λ k. before_each k (all_places n m)) (range_with_len 0 m)

-- the least place that may follow another: with replacement the same
abbrev pub next_place : Bool → ℕ → ℕ
next_place rep k = if rep then k else k + 1

abbrev pub begins_at_least : ℕ → List ℕ → Bool
begins_at_least a [] = true
begins_at_least a (k ∷ ks) = nat_le a k

-- whether the places increase, or with replacement do not decrease
abbrev pub goes_up : Bool → List ℕ → Bool
goes_up rep [] = true
goes_up rep (k ∷ ks) = begins_at_least (next_place rep k) ks && goes_up rep ks

abbrev pub rising_places : Bool → ℕ → ℕ → List (List ℕ)
rising_places rep n m = filter (goes_up rep) (all_places n m)

-- a count, or none where it is more than a column may have
abbrev pub IsCounted : ℕ → Option ℕ → Type 0
IsCounted c None = item_limit < c
IsCounted c (Some k) = (k ≡ c) × (c ≤ item_limit)

-- ---- the same, place after place

-- a list of places with each of these behind it
abbrev pub after_each : List ℕ → List ℕ → List (List ℕ)
after_each ks js = map (λ j. ks ++ j ∷ []) js

-- the least place that may follow all of a list of places
abbrev pub next_after : Bool → ℕ → List ℕ → ℕ
next_after rep a [] = a
next_after rep a (k ∷ ks) = next_after rep (next_place rep k) ks

-- the places from one on below another
abbrev pub places_from : ℕ → ℕ → List ℕ
places_from a m = range_with_len a (m - a)

abbrev pub place_count : List ℕ → ℕ
place_count [] = 1
place_count (m ∷ ms) = m * place_count ms

-- n places below m that go up, from a on
abbrev pub rising_from : Bool → ℕ → ℕ → ℕ → List (List ℕ)
rising_from rep zero a m = [] ∷ []
rising_from rep (suc n) a m =
    flat_map (λ k. before_each k (rising_from rep n (next_place rep k) m)) (places_from a m)
