-- An outermost kind whose contents hold exactly the items that are reached, in order.
use Rattle.std.specs.Prelude.{◌≡◌, List, [], map, filter}
use Rattle.std.specs.List.{range_with_len}
use Rattle.awk_types.specs.Value.{Value}
use Rattle.awk_lanes.specs.declared.kind.Kind.TheVariants.{I8, I64}
use Rattle.awk_lanes.specs.Places.{at, size_of}
use Rattle.awk_layout.specs.Item.{leaf_value}
use Rattle.awk_layout.specs.Typing.{array_items}
use Rattle.awk_columns.specs.Columns.{is_present, option_index, tags, union_index}
use Rattle.awk_columns.specs.ListValues.{list_values}
use Rattle.awk_columns.specs.Parts.{AreParts, AreAlternatives}
use Rattle.awk_open.specs.declared.opening.Opened.{Opened}
use Rattle.awk_open.specs.declared.opening.Opened.TheVariants.{Empty, Leaf, Items, Row}
use Rattle.awk_open.specs.declared.opening.Opened.TheVariants.{Option as Optional, Union}

-- of these values. Lists are as they lie: `join_lists` gives their items in order.
abbrev pub IsInOrder : List Value → Opened → Type 0
IsInOrder vs (Row names ys) = AreParts 0 vs ys
IsInOrder vs (Optional j y) =
    (j ≡ record { kind = I64; items = option_index 0 vs }) × (array_items y ≡ filter is_present vs)
IsInOrder vs (Union t j ys) =
    (t ≡ record { kind = I8; items = tags vs })
    × (j ≡ record { kind = I64; items = union_index (λ k. 0) vs })
    × AreAlternatives 0 vs ys
IsInOrder vs Empty = vs ≡ []
IsInOrder vs (Leaf c) = vs ≡ map (λ i. leaf_value c.kind (at c i)) (range_with_len 0 (size_of c))
IsInOrder vs (Items l) = vs ≡ list_values l.starts l.stops l.content
