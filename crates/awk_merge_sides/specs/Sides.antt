-- Columns whose values become values of one type, and their items one after another.
use Rattle.std.specs.Prelude.{◌≡◌, ◌==◌, ◌++◌, ◌∷◌, [], ◌<◌, ◌^◌, List, length, map, if◌then◌else◌}
use Rattle.std.specs.List.{AllByRecursion, flat_map}
use Rattle.awk_types.specs.DataType.{DataType}
use Rattle.awk_types.specs.Has.{Has}
use Rattle.awk_types.specs.Value.{Value}
use Rattle.awk_layout.specs.Layout.{Layout}
use Rattle.awk_layout.specs.Typing.{array_type, array_items}
use Rattle.awk_layout.specs.Valid.{len}
use Rattle.awk_unify.specs.Carry.{Carry, carried}
use Rattle.awk_unify.specs.View.{lift_of}
use Rattle.awk_merge_sides.specs.declared.sides.Side as declared
use Rattle.awk_merge_sides.specs.declared.sides.Sides.{Sides}

-- a column, and how its values are carried
pub record Side : Type 0 where
  pub column : Layout
  pub carry : Carry

abbrev pub side_of : declared.Side → Side
side_of s = record { column = s.column; carry = lift_of s.lift }

abbrev pub sides_of : Sides → List Side
sides_of s = map side_of s.sides.items

abbrev pub side_items : Side → List Value
side_items s = map (carried s.carry) (array_items s.column)

-- the carried items of all, one after another
abbrev pub merged_items : List Side → List Value
merged_items ss = flat_map side_items ss

-- each value of a type becomes one of the other
abbrev pub Carries : DataType → Carry → DataType → Type 0
Carries a f t = (v : Value) → Has a v → Has t (carried f v)

-- a column with an item, whose type's values become values of the type
pub record IsSide (t : DataType) (s : Side) : Type 0 where
  pub some : 0 < len s.column
  pub values : Carries (array_type s.column) s.carry t

abbrev pub AreSides : DataType → List Side → Type 0
AreSides t ss = AllByRecursion (IsSide t) ss

-- a further column, unless it has no items
abbrev pub with_side : List Side → Layout → Carry → List Side
with_side ss x f = if len x == 0 then ss else ss ++ record { column = x; carry = f } ∷ []

-- the number that is kept is that of all items
pub record IsCounted (s : Sides) : Type 0 where
  pub total : s.total ≡ length (merged_items (sides_of s))
  pub fits : s.total < 2 ^ 63

-- one column of the type, with the carried items of all
pub record IsMerged (t : DataType) (ss : List Side) (r : Layout) : Type 0 where
  pub typ : array_type r ≡ t
  pub items : array_items r ≡ merged_items ss
