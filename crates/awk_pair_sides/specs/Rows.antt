-- The rows of arrays at one level.
use Rattle.std.specs.Prelude.{ℕ, suc, ◌+◌, Bool, true, false, List, [], ◌∷◌, map, ℤ, pos, negsuc}
use Rattle.std.specs.List.{range_with_len}
use Rattle.awk_types.specs.Value.{Value}
use Rattle.awk_layout.specs.Layout.{Layout}
use Rattle.awk_gather.specs.Arrays.{array_item}

-- the items of arrays at a place, and at the first n places
abbrev pub row_at : List Layout → ℕ → List Value
row_at xs i = map (λ x. array_item x i) xs

abbrev pub rows_at : List Layout → ℕ → List (List Value)
rows_at xs n = map (row_at xs) (range_with_len 0 n)

-- counting up from n where it is true, and -1 elsewhere
abbrev pub flags_index : ℕ → List Bool → List ℤ
flags_index n [] = []
flags_index n (true ∷ bs) = pos n ∷ flags_index (suc n) bs
flags_index n (false ∷ bs) = negsuc 0 ∷ flags_index n bs

-- where lists of these lengths begin, one after another from n on, and where the last one ends
abbrev pub lengths_offsets : ℕ → List ℕ → List ℤ
lengths_offsets n [] = pos n ∷ []
lengths_offsets n (m ∷ ms) = pos n ∷ lengths_offsets (n + m) ms
