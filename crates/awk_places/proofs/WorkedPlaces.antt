-- Worked lists of places, each checked by computing.
use Rattle.std.specs.Prelude.{◌≡◌, refl, [], ◌∷◌, true, false}
use Rattle.awk_places.specs.Places.{place_lists, rising_places}

pairs_of_four : rising_places false 2 4
    ≡ (0 ∷ 1 ∷ []) ∷ (0 ∷ 2 ∷ []) ∷ (0 ∷ 3 ∷ []) ∷ (1 ∷ 2 ∷ []) ∷ (1 ∷ 3 ∷ []) ∷ (2 ∷ 3 ∷ []) ∷ []
pairs_of_four = refl

pairs_with_replacement : rising_places true 2 3
    ≡ (0 ∷ 0 ∷ []) ∷ (0 ∷ 1 ∷ []) ∷ (0 ∷ 2 ∷ []) ∷ (1 ∷ 1 ∷ []) ∷ (1 ∷ 2 ∷ []) ∷ (2 ∷ 2 ∷ []) ∷ []
pairs_with_replacement = refl

more_places_than_items : rising_places false 3 2 ≡ []
more_places_than_items = refl

pairs_of_none : rising_places true 2 0 ≡ []
pairs_of_none = refl

one_of_each : place_lists (2 ∷ 2 ∷ []) ≡ (0 ∷ 0 ∷ []) ∷ (0 ∷ 1 ∷ []) ∷ (1 ∷ 0 ∷ []) ∷ (1 ∷ 1 ∷ []) ∷
    []
one_of_each = refl

one_of_none : place_lists (2 ∷ 0 ∷ []) ≡ []
one_of_none = refl
