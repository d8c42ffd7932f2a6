-- Columns of values: all that stands at one place of their type, in order, and the numbers that
-- lead there.
use Rattle.std.specs.Prelude.{ℕ, suc, ◌+◌, ◌==◌, Bool, true, false, List, [], ◌∷◌, length, map}
use Rattle.std.specs.Prelude.{get_or, filter}
use Rattle.std.specs.Prelude.{ℤ, pos, negsuc, if◌then◌else◌}
use Rattle.std.specs.List.{flat_map}
use Rattle.awk_types.specs.Value.{Value, null, list, row, alt, value_list}

-- ---- values

-- the items of a list
abbrev pub list_items : Value → List Value
list_items (list vs) = value_list vs
list_items v = []

-- the items of all lists, one list after another
abbrev pub joined_items : List Value → List Value
joined_items vs = flat_map list_items vs

abbrev pub row_parts : Value → List Value
row_parts (row vs) = value_list vs
row_parts v = []

-- the part of a row at a place
abbrev pub part_at : ℕ → Value → Value
part_at k v = get_or (row_parts v) k null

abbrev pub is_present : Value → Bool
is_present null = false
is_present v = true

-- the place of the alternative that a value is of
abbrev pub tag_of : Value → ℕ
tag_of (alt k v) = k
tag_of v = 0

-- what a value gives to the alternative at a place
abbrev pub given_to : ℕ → Value → List Value
given_to k (alt j v) = if k == j then v ∷ [] else []
given_to k v = []

-- the values of the alternative at a place
abbrev pub alternative_values : ℕ → List Value → List Value
alternative_values k vs = flat_map (given_to k) vs

-- those that are not null
abbrev pub present_values : List Value → List Value
present_values vs = filter is_present vs

-- the values at place k of all rows
abbrev pub part_values : ℕ → List Value → List Value
part_values k vs = map (part_at k) vs

-- the lists among values
abbrev pub list_of : Value → List (List Value)
list_of (list vs) = value_list vs ∷ []
list_of v = []

abbrev pub lists_among : List Value → List (List Value)
lists_among vs = flat_map list_of vs

-- ---- numbers

-- where each list begins, and where the last one ends, if the first begins at n
abbrev pub offsets : ℕ → List Value → List ℤ
offsets n [] = pos n ∷ []
offsets n (v ∷ vs) = pos n ∷ offsets (n + length (list_items v)) vs

-- -1 for null, else counting up from n
abbrev pub option_index : ℕ → List Value → List ℤ
option_index n [] = []
option_index n (null ∷ vs) = negsuc 0 ∷ option_index n vs
option_index n (v ∷ vs) = pos n ∷ option_index (suc n) vs

abbrev pub tags : List Value → List ℤ
tags vs = map (λ v. pos (tag_of v)) vs

-- counts by place, with one more at k
abbrev pub one_more : ℕ → (ℕ → ℕ) → ℕ → ℕ
one_more k counts j = if j == k then suc (counts j) else counts j

-- counting up for each alternative, from the counts so far
abbrev pub union_index : (ℕ → ℕ) → List Value → List ℤ
union_index counts [] = []
union_index counts (v ∷ vs) = pos (counts (tag_of v)) ∷ union_index (one_more (tag_of v) counts) vs
