-- The places that lists give, and the groups of bytes there.
use Rattle.std.specs.Prelude.{ℕ, ◌<◌, List, [], map, get_or}
use Rattle.std.specs.List.{range_with_len, flat_map}

-- the places of the first n lists, each by its length, one list after another
abbrev pub list_places : (ℕ → ℕ) → (ℕ → ℕ → ℕ) → ℕ → List ℕ
list_places m p n = flat_map (λ i. map (p i) (range_with_len 0 (m i))) (range_with_len 0 n)

-- each is a place of so many items
abbrev pub ArePlaces : ℕ → (ℕ → ℕ) → (ℕ → ℕ → ℕ) → ℕ → Type 0
ArePlaces size m p n = (i k : ℕ) → i < n → k < m i → p i k < size

-- the groups at places
abbrev pub groups_at : List (List ℕ) → List ℕ → List (List ℕ)
groups_at gs ks = map (λ k. get_or gs k []) ks
