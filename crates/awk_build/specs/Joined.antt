-- Arrays one after another, in the type that theirs unify to from the left.
use Rattle.std.specs.Prelude.{List, [], ◌∷◌, ◌++◌, map}
use Rattle.awk_types.specs.DataType.{DataType, unknown}
use Rattle.awk_types.specs.Value.{Value}
use Rattle.awk_layout.specs.Layout.{Layout}
use Rattle.awk_layout.specs.Typing.{array_type, array_items}
use Rattle.awk_unify.specs.Carry.{Carry, carried}
use Rattle.awk_merge_sides.specs.Sides.{Side, with_side}
use Rattle.awk_build.specs.Suffix.{carriers, last_type, steps_from}

-- the items of each array by its carry, one after another
abbrev pub items_by : List Carry → List Layout → List Value
items_by (f ∷ fs) (x ∷ xs) = map (carried f) (array_items x) ++ items_by fs xs
items_by fs xs = []

-- what the types unify to, and how the items of each array are carried into it
abbrev pub joined_type : List Layout → DataType
joined_type xs = last_type unknown (map array_type xs)

abbrev pub carries_of : List Layout → List Carry
carries_of xs = (carriers (steps_from unknown (map array_type xs))).each

abbrev pub joined_items : List Layout → List Value
joined_items xs = items_by (carries_of xs) xs

-- the arrays that have items, each with its carry, behind those so far
abbrev pub sides_from : List Side → List Carry → List Layout → List Side
sides_from ss (f ∷ fs) (x ∷ xs) = sides_from (with_side ss x f) fs xs
sides_from ss fs xs = ss
