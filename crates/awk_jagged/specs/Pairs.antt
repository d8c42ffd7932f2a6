-- Lists in pairs by their places: what is picked from one by the other, and what is told of it.
use Rattle.std.specs.Prelude.{◌≡◌, ℕ, ◌<◌, true, false, List, length}
use Rattle.std.specs.List.{range_with_len, flat_map}
use Rattle.awk_types.specs.DataType.{DataType}
use Rattle.awk_types.specs.Value.{Value}
use Rattle.awk_jagged_rows.specs.Sides.{ListsBy}
use Rattle.awk_jagged.specs.Jagged.{are_uneven, lacks_places, picked_items}

-- the first n pairs are as long as they have to be
abbrev pub AreEven : DataType → ListsBy → ListsBy → ℕ → Type 0
AreEven u x w n = (i : ℕ) → i < n → are_uneven u (x i) (w i) ≡ false

-- one of them is not
abbrev pub IsUneven : DataType → ListsBy → ListsBy → ℕ → Type 0
IsUneven u x w n = (i : ℕ) × (i < n) × (are_uneven u (x i) (w i) ≡ true)

-- each place that is named is there
abbrev pub HaveAll : DataType → ListsBy → ListsBy → ℕ → Type 0
HaveAll u x w n = (i : ℕ) → i < n → lacks_places u (x i) (w i) ≡ false

-- one of them is not
abbrev pub LackSome : DataType → ListsBy → ListsBy → ℕ → Type 0
LackSome u x w n = (i : ℕ) × (i < n) × (lacks_places u (x i) (w i) ≡ true)

-- what is picked from the first n lists, one after another
abbrev pub picks : DataType → ListsBy → ListsBy → ℕ → List Value
picks u x w n = flat_map (λ i. picked_items u (x i) (w i)) (range_with_len 0 n)

-- how many items are picked from a list
abbrev pub picked_length : DataType → ListsBy → ListsBy → ℕ → ℕ
picked_length u x w i = length (picked_items u (x i) (w i))
