-- Fields of records by name.
use Rattle.std.specs.List.{list_all}
use Rattle.std.specs.Prelude.{◌&&◌, ◌==◌, ◌∷◌, [], if◌then◌else◌, Bool, List, None, Option, Some}
use Rattle.std.specs.Prelude.{length, map}
use Rattle.awk_name_places.specs.Places.{place_in}
use Rattle.awk_unify.specs.Carries.{carry_at}
use Rattle.awk_unify.specs.Carry.{Carry, carries_from, to_parts}
use Rattle.awk_unify.specs.Places.{places}
use Rattle.awk_types.specs.DataType.{DataType, Name}
use Rattle.awk_types.specs.Names.{is_among, same_name}

abbrev pub field_type : Name → List Name → List DataType → Option DataType
field_type n (m ∷ ms) (t ∷ ts) = if same_name n m then Some t else field_type n ms ts
field_type n ms ts = None

abbrev pub with_type : Option DataType → Option (List DataType) → Option (List DataType)
with_type (Some t) (Some ts) = Some (t ∷ ts)
with_type t ts = None

-- the fields of the names, in their order
abbrev pub picked : List Name → List Name → List DataType → Option (List DataType)
picked [] ms us = Some []
picked (n ∷ ns) ms us = with_type (field_type n ms us) (picked ns ms us)

-- the same names in any order, where those of a record are distinct
abbrev pub is_in : List Name → Name → Bool
is_in ns m = is_among m ns

abbrev pub alike : List Name → List Name → Bool
alike ns ms = (length ns == length ms) && list_all (is_in ns) ms

abbrev pub in_own : List Carry → Carry
in_own fs = to_parts (places (length fs)) (carries_from fs)

-- the parts of the second record go to the places that their names have in the first
abbrev pub to_names : List Name → List Name → List Carry → Carry
to_names ns ms fs =
    to_parts (map (place_in ns) ms) (carries_from (map (λ m. carry_at fs (place_in ns m)) ms))
