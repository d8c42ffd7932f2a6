-- Worked examples of the laws of lists in order, each checked by computing.
use Rattle.std.specs.Prelude.{◌≡◌, refl, pos, true, false, List, [], ◌∷◌, Ok}
use Rattle.awk_types.specs.DataType.{leaf, opt}
use Rattle.awk_types.specs.Datum.{Datum, arr}
use Rattle.awk_types.specs.Value.{Value, int, null}
use Rattle.awk_types.specs.declared.primitive.Primitive.TheVariants.{I64}
use Rattle.awk_select.specs.Picks.{picked, take_of, take_places}
use Rattle.awk_order.specs.Order.{items_in_order}
use Rattle.awk_order.specs.Sort.{argsort_of, place_items, sort_of}

-- [3,null,1]
abbrev items : List Value
items = int (pos 3) ∷ null ∷ int (pos 1) ∷ []

up : items_in_order true items ≡ int (pos 1) ∷ int (pos 3) ∷ null ∷ []
up = refl

-- nulls come last also where numbers fall
down : items_in_order false items ≡ int (pos 3) ∷ int (pos 1) ∷ null ∷ []
down = refl

places : place_items true items ≡ int (pos 2) ∷ int (pos 0) ∷ int (pos 1) ∷ []
places = refl

picked_in_order : picked items (take_places 3 (int (pos 2) ∷ int (pos 0) ∷ int (pos 1) ∷ []))
    ≡ int (pos 1) ∷ int (pos 3) ∷ null ∷ []
picked_in_order = refl

-- of whole arrays of leaves
abbrev whole : List Value → Datum
whole vs = arr (opt (leaf I64)) vs

places_given : argsort_of true (whole items)
    ≡ Ok (arr (leaf I64) (int (pos 2) ∷ int (pos 0) ∷ int (pos 1) ∷ []))
places_given = refl

sorted_by_places : take_of (whole items)
    (arr (leaf I64) (int (pos 2) ∷ int (pos 0) ∷ int (pos 1) ∷ [])) ≡ sort_of true (whole items)
sorted_by_places = refl

again : items_in_order true (int (pos 1) ∷ int (pos 3) ∷ null ∷ [])
    ≡ int (pos 1) ∷ int (pos 3) ∷ null ∷ []
again = refl
