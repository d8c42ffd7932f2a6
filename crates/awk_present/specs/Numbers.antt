-- Numbers of a list's items: those that are not null, a truth value as 0 or 1.
use Rattle.std.specs.Prelude.{ℤ, ◌&&◌, List, map, Option, ℕ, position}
use Rattle.std.specs.Option.{option_and_then}
use Rattle.std.specs.Ordering.{int_eq}
use Rattle.awk_types.specs.DataType.{DataType, leaf, opt}
use Rattle.awk_types.specs.Parts.{number_of}
use Rattle.awk_types.specs.Value.{Value}
use Rattle.awk_types.specs.declared.primitive.Primitive.{Primitive}
use Rattle.awk_types.specs.declared.primitive.Primitive.TheVariants.{I64}
use Rattle.awk_columns.specs.Columns.{present_values, is_present}
use Rattle.awk_numbers.specs.Folds.{extreme_of}
use Rattle.awk_numbers.specs.declared.extremes.Extreme.{Extreme}

-- the leaf of a type, its option dropped. Unknown counts as int64.
abbrev pub leaf_of : DataType → Primitive
leaf_of (leaf p) = p
leaf_of (opt (leaf p)) = p
leaf_of t = I64

-- the numbers of the items that are not null
abbrev pub numbers : List Value → List ℤ
numbers vs = map number_of (present_values vs)

-- the first place of a number, nulls counted
abbrev pub number_place : List Value → ℤ → Option ℕ
number_place vs z = position (λ v. is_present v && int_eq z (number_of v)) vs

-- the first place of the least or of the greatest item, nulls counted
abbrev pub extreme_place : Extreme → List Value → Option ℕ
extreme_place how vs = option_and_then (number_place vs) (extreme_of how (numbers vs))
