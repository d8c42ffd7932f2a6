-- Items that a mask chooses, place by place.
use Rattle.std.specs.Prelude.{ℕ, ◌==◌, List, [], map, length, get_or, cond}
use Rattle.std.specs.List.{range_with_len}

-- the item that a mask chooses at place i
abbrev pub chosen_item : {A : Type 0} → List ℕ → List A → List A → A → ℕ → A
chosen_item ms xs ys d i = cond (get_or ms i 0 == 0) (get_or ys i d) (get_or xs i d)

-- the groups that it chooses
abbrev pub chosen_items : List ℕ → List (List ℕ) → List (List ℕ) → List (List ℕ)
chosen_items ms xs ys = map (chosen_item ms xs ys []) (range_with_len 0 (length ms))
