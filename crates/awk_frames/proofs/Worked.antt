-- Values parted into a shape and its ends, and put together again.
use Rattle.std.specs.Prelude.{◌≡◌, ◌+◌, refl, List, [], ◌∷◌, map, pos, negsuc, None}
use Rattle.awk_types.specs.DataType.{DataType, leaf, var, reg, opt}
use Rattle.awk_types.specs.Value.{Value, int, null, list, values_from}
use Rattle.awk_types.specs.declared.primitive.Primitive.TheVariants.{I8, I64}
use Rattle.awk_lanes.specs.declared.kind.Kind.TheVariants as kind
use Rattle.awk_layout.specs.Layout.{Layout, flat}
use Rattle.awk_layout.specs.Typing.{array_type, array_items}
use Rattle.awk_frames.specs.Framed.{framed_layout, over, over_type}
use Rattle.awk_frames.specs.Shape.{leaves, items, missing, shape, ends}

abbrev list_of : List Value → Value
list_of vs = list (values_from vs)

-- [[1, null], null, [2]]
abbrev nested : DataType
nested = opt (var (opt (leaf I8)))

abbrev rows : List Value
rows = list_of (int (pos 1) ∷ null ∷ []) ∷ null ∷ list_of (int (pos 2) ∷ []) ∷ []

ends_of_rows : ends nested rows ≡ int (pos 1) ∷ int (pos 2) ∷ []
ends_of_rows = refl

shape_of_rows : shape nested rows
    ≡ missing (record { kind = kind.I64; items = pos 0 ∷ negsuc 0 ∷ pos 1 ∷ [] })
    (items (record { kind = kind.I64; items = pos 0 ∷ pos 2 ∷ pos 3 ∷ [] }) None
    (missing (record { kind = kind.I64; items = pos 0 ∷ negsuc 0 ∷ pos 1 ∷ [] }) (leaves 2)))
shape_of_rows = refl

-- 2 and 4, the doubles of 1 and 2
abbrev doubles : Layout
doubles = flat (record { kind = kind.I64; items = pos 2 ∷ pos 4 ∷ [] })

abbrev doubled : Value → Value
doubled (int (pos k)) = int (pos (k + k))
doubled v = v

framed_rows : array_items (framed_layout (shape nested rows) doubles)
    ≡ list_of (int (pos 2) ∷ null ∷ []) ∷ null ∷ list_of (int (pos 4) ∷ []) ∷ []
framed_rows = refl

doubled_rows : array_items (framed_layout (shape nested rows) doubles)
    ≡ map (over nested doubled) rows
doubled_rows = refl

framed_type : array_type (framed_layout (shape nested rows) doubles) ≡ opt (var (opt (leaf I64)))
framed_type = refl

-- an option at the ends and one above them are one
one_option : over_type (reg 2 (opt (leaf I8))) (opt (leaf I64)) ≡ reg 2 (opt (leaf I64))
one_option = refl
