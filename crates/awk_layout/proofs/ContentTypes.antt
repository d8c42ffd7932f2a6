-- The types of contents, one after another.
use Rattle.std.proofs.Common.{◌≡◌, List, [], ◌∷◌, map, refl, ap}
use Rattle.std.proofs.lemmas.List.{length-map}
use Rattle.awk_types.specs.DataType.{types_from, type}
use Rattle.awk_layout.specs.Layout.{Layout, layouts_from}
use Rattle.awk_layout.specs.Typing.{layout_type, layout_types}
use Rattle.awk_layout.proofs.LayoutTypes.{layout_is_type}
use Rattle.awk_layout.specs.Contents.{height-get, count-layouts_from}

pub layout_types-layouts_from : (xs : List Layout)
    → types_from (map layout_type xs) ≡ layout_types (layouts_from xs)
layout_types-layouts_from [] = refl
layout_types-layouts_from (x ∷ xs) = ap (type (layout_type x)) (layout_types-layouts_from xs)

pub ruleset contents =
    (height-get, layout_types-layouts_from, count-layouts_from, layout_is_type, length-map)
