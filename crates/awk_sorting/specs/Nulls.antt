-- Numbers among cells of which some have none.
use Rattle.std.specs.Prelude.{ℕ, suc, ℤ, List, [], ◌∷◌, Option, Some, None}

-- the numbers that are there
abbrev pub somes : List (Option ℤ) → List ℤ
somes [] = []
somes (None ∷ os) = somes os
somes (Some z ∷ os) = z ∷ somes os

-- how many cells have none
abbrev pub nones : List (Option ℤ) → ℕ
nones [] = 0
nones (None ∷ os) = suc (nones os)
nones (Some z ∷ os) = nones os
