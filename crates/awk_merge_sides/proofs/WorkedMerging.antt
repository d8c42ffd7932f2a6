-- The definitions on small columns and lifts.
use Rattle.std.specs.Prelude.{◌≡◌, ◌∷◌, [], List, None, Some, pos, refl, ℤ}
use Rattle.awk_types.specs.Value.{int}
use Rattle.awk_lanes.specs.declared.kind.Kind.TheVariants.{I64}
use Rattle.awk_layout.specs.Layout.{Layout, empty, flat}
use Rattle.awk_unify.specs.Carry.{Carry, carry, in_items, keep, no_carries, to_alternatives}
use Rattle.awk_unify.specs.Carry.{to_parts}
use Rattle.awk_merge_sides.specs.Lifts.{alternative_tag, items_carry, part_carry}
use Rattle.awk_merge_sides.specs.Lifts.{part_source}
use Rattle.awk_merge_sides.specs.Sides.{merged_items, with_side}

abbrev numbers : List ℤ → Layout
numbers zs = flat (record { kind = I64; items = zs })

-- the items of columns one after another; a column without items is left out
one_after_another : merged_items (with_side (with_side [] (numbers (pos 1 ∷ pos 2 ∷ [])) keep)
    (numbers (pos 3 ∷ [])) keep)
    ≡ int (pos 1) ∷ int (pos 2) ∷ int (pos 3) ∷ []
one_after_another = refl

left_out : with_side [] empty keep ≡ []
left_out = refl

-- the parts of rows change places, and a part that none goes to has no source
abbrev swapped : Carry
swapped = to_parts (1 ∷ 0 ∷ []) (carry keep (carry (in_items keep) no_carries))

source : part_source swapped 0 ≡ Some 1
source = refl

no_source : part_source swapped 2 ≡ None
no_source = refl

part : part_carry swapped 1 ≡ in_items keep
part = refl

-- an alternative gets another tag
tag : alternative_tag (to_alternatives (2 ∷ 0 ∷ []) (carry keep (carry keep no_carries))) 0 ≡ 2
tag = refl

same_tag : alternative_tag keep 1 ≡ 1
same_tag = refl

of_items : items_carry (in_items swapped) ≡ swapped
of_items = refl
