-- The order of the items of a list: numbers that rise or fall, nulls last, equal ones as they
-- stand.
use Rattle.std.specs.Prelude.{ℕ, Bool, List, map, get_or}
use Rattle.awk_types.specs.Parts.{option_number}
use Rattle.awk_types.specs.Value.{Value, null}
use Rattle.awk_sorting.specs.Order.{order}

-- all places of a list, in the order of their items
abbrev pub item_order : Bool → List Value → List ℕ
item_order up vs = order up (map option_number vs)

-- the items in that order
abbrev pub items_in_order : Bool → List Value → List Value
items_in_order up vs = map (λ p. get_or vs p null) (item_order up vs)
