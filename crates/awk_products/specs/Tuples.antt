-- Tuples of one item of each of several lists.
use Rattle.std.specs.Prelude.{ℕ, Bool, List, [], ◌∷◌, length, map}
use Rattle.awk_types.specs.DataType.{DataType, tup, types_from}
use Rattle.awk_types.specs.Value.{Value, row, values_from}
use Rattle.awk_places.specs.Places.{place_lists}
use Rattle.awk_combi.specs.Combinations.{slot_type, slot_value}

abbrev pub tuple_type : Bool → List DataType → DataType
tuple_type places ts = tup (types_from (map (slot_type places) ts))

-- one item of each list, or its place
abbrev pub slot_values : Bool → List (List Value) → List ℕ → List Value
slot_values places (vs ∷ vss) (k ∷ ks) = slot_value places vs k ∷ slot_values places vss ks
slot_values places vss ks = []

-- the tuple of the items at these places
abbrev pub tuple_of : Bool → List (List Value) → List ℕ → Value
tuple_of places vss ks = row (values_from (slot_values places vss ks))

-- all tuples of several lists, the last varying fastest
abbrev pub tuples_of : Bool → List (List Value) → List Value
tuples_of places vss = map (tuple_of places vss) (place_lists (map length vss))
