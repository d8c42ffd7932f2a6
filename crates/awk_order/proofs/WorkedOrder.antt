-- Worked orders, each checked by computing.
use Rattle.std.specs.Prelude.{◌≡◌, refl, [], ◌∷◌, true, false, pos, List}
use Rattle.awk_types.specs.Value.{Value, int, truth, null}
use Rattle.awk_order.specs.Order.{item_order, items_in_order}

-- [7,7,5,7]
abbrev sevens : List Value
sevens = int (pos 7) ∷ int (pos 7) ∷ int (pos 5) ∷ int (pos 7) ∷ []

-- [1,null,3]
abbrev with_null : List Value
with_null = int (pos 1) ∷ null ∷ int (pos 3) ∷ []

down : items_in_order false (int (pos 1) ∷ int (pos 2) ∷ int (pos 3) ∷ [])
    ≡ int (pos 3) ∷ int (pos 2) ∷ int (pos 1) ∷ []
down = refl

nulls_last_going_down : items_in_order false with_null ≡ int (pos 3) ∷ int (pos 1) ∷ null ∷ []
nulls_last_going_down = refl

equal_going_up : item_order true sevens ≡ 2 ∷ 0 ∷ 1 ∷ 3 ∷ []
equal_going_up = refl

-- equal items are not turned round
equal_going_down : item_order false sevens ≡ 0 ∷ 1 ∷ 3 ∷ 2 ∷ []
equal_going_down = refl

nulls_last_going_up : item_order true with_null ≡ 0 ∷ 2 ∷ 1 ∷ []
nulls_last_going_up = refl

two_nulls : item_order false (null ∷ int (pos 1) ∷ null ∷ []) ≡ 1 ∷ 0 ∷ 2 ∷ []
two_nulls = refl

false_below_true : items_in_order true (truth true ∷ truth false ∷ truth true ∷ [])
    ≡ truth false ∷ truth true ∷ truth true ∷ []
false_below_true = refl

of_none : item_order true [] ≡ []
of_none = refl
