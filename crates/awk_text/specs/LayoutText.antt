-- The texts of a layout's items, as the layout has them.
use Rattle.std.specs.Prelude.{ℕ, ◌-◌, ◌≤◌, ◌==◌, List, [], ◌++◌, map, get_or, length, codes}
use Rattle.std.specs.Prelude.{decimal, Option, Some, None, option_map}
use Rattle.std.specs.Borrow.{Bor}
use Rattle.std.specs.List.{range_with_len, flat_map}
use Rattle.awk_types.specs.DataType.{Name}
use Rattle.awk_json.specs.Text.{quoted, comma_joined, comma_before, list_text}
use Rattle.awk_layout.specs.Layout.{Layout, empty, layout_list}
use Rattle.awk_layout.specs.Item.{item}
use Rattle.awk_layout.specs.Place.{Case, number, span, across, missing, through, alternative}
use Rattle.awk_layout.specs.Typing.{layout_type}
use Rattle.awk_form.specs.FormText.{Text}
use Rattle.awk_text.specs.ValueText.{leaf_text, value_text}

-- the text of the item at a place
abbrev pub layout_text : Layout → ℕ → Text
layout_text x i = value_text (layout_type x) (item x i)

-- the list of the items from a place below another
abbrev pub span_text : Layout → ℕ → ℕ → Text
span_text x lo hi = list_text (map (layout_text x) (range_with_len lo (hi - lo)))

-- the items from a place below a stop, in a list that begins at a first place: each is behind a
-- comma, but for the first
abbrev pub run_text : Layout → ℕ → ℕ → ℕ → Text
run_text x first j stop =
    flat_map (λ k. comma_before (k == first) ++ layout_text x k) (range_with_len j (stop - j))

abbrev pub names_shown : Option (Bor (List Name)) → Option (List Name)
names_shown names = option_map (λ m. m.now) names

-- the name of the k-th field; that of a tuple's place is its number
abbrev pub field_name : Option (List Name) → ℕ → Name
field_name None k = decimal k
field_name (Some names) k = get_or names k []

-- there are names for n fields
abbrev pub AreNamed : Option (List Name) → ℕ → Type 0
AreNamed None n = Unit {0}
AreNamed (Some names) n = n ≤ length names

-- the name of the k-th field, before its value
abbrev pub field_text : Option (List Name) → ℕ → Text
field_text names k = quoted (field_name names k) ++ codes ":"

-- the k-th field, with its content's item at place i
abbrev pub member_text : Option (List Name) → List Layout → ℕ → ℕ → Text
member_text names xs i k = field_text names k ++ layout_text (get_or xs k empty) i

-- the row of the contents' items at a place
abbrev pub row_text : Option (List Name) → List Layout → ℕ → Text
row_text names xs i =
    codes "{"
    ++ (comma_joined (map (member_text names xs i) (range_with_len 0 (length xs))) ++ codes "}")

-- the text of a case
abbrev pub case_text : Case → Text
case_text (number v) = leaf_text v
case_text (span x lo hi) = span_text x lo hi
case_text (across names xs i) = row_text names (layout_list xs) i
case_text missing = codes "null"
case_text (through x i) = layout_text x i
case_text (alternative tag x i) = layout_text x i
