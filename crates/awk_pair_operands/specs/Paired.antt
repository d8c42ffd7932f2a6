-- Operands paired, through at most so many levels: a part on types and a part on one row of values.
use Rattle.std.specs.Prelude.{ℕ, zero, suc, Bool, true, false, ◌||◌, not, List, map}
use Rattle.std.specs.Prelude.{if◌then◌else◌}
use Rattle.std.specs.List.{list_any, list_all}
use Rattle.awk_types.specs.DataType.{DataType, tup, types_from, greatest, depth}
use Rattle.awk_types.specs.Predicates.{is_leaf}
use Rattle.awk_types.specs.Simple.{present, option_if}
use Rattle.awk_types.specs.Value.{Value, null, list, row, values_from}
use Rattle.awk_columns.specs.ListClass.{list_type}
use Rattle.awk_pair_sides.specs.Levels.{opens, goes_on, some_option, item_types}
use Rattle.awk_pair_sides.specs.Levels.{level_class}
use Rattle.awk_pair_sides.specs.Sides.{misses, differ, inner_rows}

-- ---- the ends

-- where a pairing ends at last: at leaves, or at whatever stands at a depth
pub data Reach : Type 0 where
  to_leaves : Reach
  to_depth : Reach

abbrev pub end_types : Reach → List DataType → List DataType
end_types to_leaves ts = map present ts
end_types to_depth ts = ts

-- a row of the operands' items
abbrev pub end_type : Reach → List DataType → DataType
end_type to_leaves ts = option_if (some_option ts) (tup (types_from (end_types to_leaves ts)))
end_type to_depth ts = tup (types_from (end_types to_depth ts))

abbrev pub end_value : Reach → List DataType → List Value → Value
end_value to_leaves ts vs = if misses ts vs then null else row (values_from vs)
end_value to_depth ts vs = row (values_from vs)

abbrev pub is_wrong_end : Reach → List DataType → Bool
is_wrong_end to_leaves ts = not (list_all is_leaf (map present ts))
is_wrong_end to_depth ts = false

-- ---- all levels, of which there are at most d

-- the types of the items at the ends
abbrev pub types_at_ends : Reach → ℕ → List DataType → List DataType
types_at_ends r zero ts = end_types r ts
types_at_ends r (suc d) ts =
    if opens ts then types_at_ends r d (item_types ts) else end_types r ts

-- whether an item at an end is no leaf where leaves are asked for
abbrev pub is_wrong : Reach → ℕ → List DataType → Bool
is_wrong r zero ts = is_wrong_end r ts
is_wrong r (suc d) ts = if opens ts then is_wrong r d (item_types ts) else is_wrong_end r ts

-- as many levels as types may have
abbrev pub all_levels : List DataType → ℕ
all_levels ts = greatest (map depth ts)

-- the type of what is paired, optional at each level where an operand is
abbrev pub paired_type : Bool → Reach → ℕ → List DataType → DataType
paired_type keep r zero ts = end_type r ts
paired_type keep r (suc d) ts =
    if opens ts
    then option_if (some_option ts)
    (list_type (level_class keep ts) (paired_type keep r d (item_types ts)))
    else end_type r ts

-- lists and nulls with a row of the operands' items at each end
abbrev pub paired_value : Bool → Reach → ℕ → List DataType → List Value → Value
paired_value keep r zero ts vs = end_value r ts vs
paired_value keep r (suc d) ts vs =
    if opens ts then
    (if misses ts vs then null
    else list (values_from (map (paired_value keep r d (item_types ts)) (inner_rows keep ts vs))))
    else end_value r ts vs

-- whether lists of a level have unequal lengths
abbrev pub is_uneven : Bool → ℕ → List DataType → List Value → Bool
is_uneven keep zero ts vs = false
is_uneven keep (suc d) ts vs =
    if opens ts then
    (if misses ts vs then false
    else differ keep ts vs || list_any (is_uneven keep d (item_types ts)) (inner_rows keep ts vs))
    else false

-- ---- rows

-- the values that the rows are paired to
abbrev pub values_of_rows : Bool → Reach → ℕ → List DataType → List (List Value) → List Value
values_of_rows keep r d ts rows = map (paired_value keep r d ts) rows

abbrev pub any_uneven : Bool → ℕ → List DataType → List (List Value) → Bool
any_uneven keep d ts rows = list_any (is_uneven keep d ts) rows

-- whether nulls are taken out of the rows, where operands are optional
abbrev pub is_to_leaves : Reach → Bool
is_to_leaves to_leaves = true
is_to_leaves to_depth = false

abbrev pub takes_nulls : Reach → ℕ → List DataType → Bool
takes_nulls r d ts = is_to_leaves r || goes_on d ts
