-- Worked examples of the laws of tuples, each checked by computing.
use Rattle.std.specs.Prelude.{◌≡◌, refl, ◌*◌, ℤ, pos, true, false, List, [], ◌∷◌, map, length, Ok}
use Rattle.awk_types.specs.DataType.{DataType, leaf, var, tup, types_from}
use Rattle.awk_types.specs.Datum.{Datum, arr}
use Rattle.awk_types.specs.Value.{Value, int, list, row, values_from}
use Rattle.awk_types.specs.declared.primitive.Primitive.TheVariants.{I64}
use Rattle.awk_places.specs.Places.{rising_places}
use Rattle.awk_combi.specs.Combinations.{tuples}
use Rattle.awk_products.specs.Tuples.{tuples_of}
use Rattle.awk_cartesian.specs.Cartesian.{cartesian_of}
use Rattle.awk_laws.specs.Choices.{binomial, comes_before, factorial, picked_tuple}

abbrev ints : List ℤ → List Value
ints zs = map (λ z. int z) zs

-- [7,8,9]
abbrev items : List Value
items = ints (pos 7 ∷ pos 8 ∷ pos 9 ∷ [])

pairs_of_four : binomial 4 2 ≡ 6
pairs_of_four = refl

by_factorials : 6 * (factorial 2 * factorial 2) ≡ factorial 4
by_factorials = refl

pairs : rising_places false 2 3 ≡ (0 ∷ 1 ∷ []) ∷ (0 ∷ 2 ∷ []) ∷ (1 ∷ 2 ∷ []) ∷ []
pairs = refl

-- with replacement as many as pairs of one item more
pairs_repeated : rising_places true 2 2 ≡ (0 ∷ 0 ∷ []) ∷ (0 ∷ 1 ∷ []) ∷ (1 ∷ 1 ∷ []) ∷ []
pairs_repeated = refl

abbrev pair : ℤ → ℤ → Value
pair a b = row (values_from (ints (a ∷ b ∷ [])))

places_of_pairs : tuples false true 2 (leaf I64) items
    ≡ pair (pos 0) (pos 1) ∷ pair (pos 0) (pos 2) ∷ pair (pos 1) (pos 2) ∷ []
places_of_pairs = refl

pairs_picked : map (picked_tuple items) (tuples false true 2 (leaf I64) items)
    ≡ pair (pos 7) (pos 8) ∷ pair (pos 7) (pos 9) ∷ pair (pos 8) (pos 9) ∷ []
pairs_picked = refl

two_by_three : length (tuples_of false (ints (pos 1 ∷ pos 2 ∷ []) ∷ items ∷ [])) ≡ 6
two_by_three = refl

abbrev pair_type : DataType
pair_type = tup (types_from (leaf I64 ∷ leaf I64 ∷ []))

-- the same of whole arrays: there are six pairs of [1,2] and [7,8,9]
abbrev six : List Value
six =
    pair (pos 1) (pos 7) ∷ pair (pos 1) (pos 8) ∷ pair (pos 1) (pos 9) ∷ pair (pos 2) (pos 7)
    ∷ pair (pos 2) (pos 8) ∷ pair (pos 2) (pos 9) ∷ []

pairs_of_arrays : cartesian_of (pos 0) false
    (arr (leaf I64) (ints (pos 1 ∷ pos 2 ∷ [])) ∷ arr (leaf I64) items ∷ [])
    ≡ Ok (arr pair_type six)
pairs_of_arrays = refl

-- [0,2] is among the pairs of 3 items, behind [0,1]
between : comes_before (0 ∷ 1 ∷ []) (0 ∷ 2 ∷ []) ≡ true
between = refl

-- [[1,2],[]] and [[3],[4]] row by row
abbrev items_of : List Value → Value
items_of vs = list (values_from vs)

abbrev lists_of : List (List ℤ) → Datum
lists_of zss = arr (var (leaf I64)) (map (λ zs. items_of (ints zs)) zss)

pairs_by_row : cartesian_of (pos 1) false
    (lists_of ((pos 1 ∷ pos 2 ∷ []) ∷ [] ∷ []) ∷ lists_of ((pos 3 ∷ []) ∷ (pos 4 ∷ []) ∷ []) ∷ [])
    ≡ Ok (arr (var pair_type) (items_of (pair (pos 1) (pos 3) ∷ pair (pos 2) (pos 3) ∷ [])
    ∷ items_of [] ∷ []))
pairs_by_row = refl
