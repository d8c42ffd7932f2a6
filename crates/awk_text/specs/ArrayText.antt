-- The texts of an array and of its items, by the simple type and the simple values.
use Rattle.std.specs.Prelude.{ℕ, map}
use Rattle.awk_types.specs.Simple.{simple_value}
use Rattle.awk_json.specs.Text.{list_text}
use Rattle.awk_layout.specs.Layout.{Layout}
use Rattle.awk_layout.specs.Item.{item}
use Rattle.awk_layout.specs.Typing.{layout_type, array_type, array_items}
use Rattle.awk_form.specs.FormText.{Text}
use Rattle.awk_text.specs.ValueText.{value_text}

-- the text of the item at a place
abbrev pub item_text : Layout → ℕ → Text
item_text x i = value_text (array_type x) (simple_value (layout_type x) (item x i))

-- the list of the texts of all items
abbrev pub array_text : Layout → Text
array_text x = list_text (map (value_text (array_type x)) (array_items x))
