-- A level of rows that are merged: one group of columns a part.
use Rattle.std.specs.Prelude.{Option, Some, None, ◌≡◌, ◌<◌, [], ℕ, List, get_or, length, map}
use Rattle.std.specs.List.{AllByRecursion}
use Rattle.awk_types.specs.DataType.{DataType, Name, rec, tup, type_list}
use Rattle.awk_types.specs.Value.{Value, null, row, values_from}
use Rattle.awk_merge_sides.specs.Sides.{Side, merged_items}
use Rattle.awk_merge_sides.specs.declared.groups.Groups.{Groups}
use Rattle.awk_merge_sides.specs.Groups.{groups_of, AreCounted, AreGroups}

-- the parts of a tuple or a record
abbrev pub row_parts : DataType → List DataType
row_parts (rec ns ts) = type_list ts
row_parts (tup ts) = type_list ts
row_parts t = []

-- the names of a record
abbrev pub row_names : DataType → Option (List Name)
row_names (rec ns ts) = Some ns
row_names t = None

-- the items at a place
abbrev pub across : List (List Side) → ℕ → List Value
across gs i = map (λ g. get_or (merged_items g) i null) gs

abbrev pub AreEachLong : ℕ → List (List Side) → Type 0
AreEachLong n gs = AllByRecursion (λ g. length (merged_items g) ≡ n) gs

pub record IsRowLevel (ts : List DataType) (ss : List Side) (r : Groups) : Type 0 where
  pub groups : AreGroups ts (groups_of r)
  pub counted : AreCounted r
  pub long : AreEachLong (length (merged_items ss)) (groups_of r)
  pub items : (i : ℕ) → i < length (merged_items ss)
      → get_or (merged_items ss) i null ≡ row (values_from (across (groups_of r) i))
