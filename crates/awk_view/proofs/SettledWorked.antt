-- Settling of items of small arrays, each checked by computing.
use Rattle.std.specs.Prelude.{◌≡◌, ℕ, List, [], ◌∷◌, get_or, codes, true, Some, ℤ, pos, negsuc}
use Rattle.std.specs.Prelude.{refl}
use Rattle.awk_types.specs.DataType.{DataType, leaf, var, rec, opt, uni, types_from}
use Rattle.awk_types.specs.declared.primitive.Primitive.TheVariants.{I8, I64}
use Rattle.awk_types.specs.Value.{int, null, row, values_from}
use Rattle.awk_types.specs.Datum.{Datum, arr, one}
use Rattle.awk_types.specs.Settle.{settle}
use Rattle.awk_lanes.specs.declared.kind.Kind.TheVariants as kind
use Rattle.awk_lanes.specs.Column.{Column}
use Rattle.awk_layout.specs.Layout.{Layout, layouts_from, flat, regular, offset_lists, rows}
use Rattle.awk_layout.specs.Layout.{optional, byte_masked, union}
use Rattle.awk_layout.specs.Typing.{array_type, array_items}

abbrev bytes : List ℤ → Column
bytes zs = record { kind = kind.I8; items = zs }

abbrev numbers : List ℤ → Column
numbers zs = record { kind = kind.I64; items = zs }

-- the item of an array at a place, settled
abbrev at_place : Layout → ℕ → Datum
at_place x i = settle (array_type x) (get_or (array_items x) i null)

-- null, and the list of 5 and 6
abbrev lists : Layout
lists =
    optional (numbers (negsuc 0 ∷ pos 0 ∷ []))
    (offset_lists (numbers (pos 0 ∷ pos 2 ∷ [])) (flat (numbers (pos 5 ∷ pos 6 ∷ []))))

optional_null : at_place lists 0 ≡ one (opt (var (leaf I64))) null
optional_null = refl

present_list : at_place lists 1 ≡ arr (leaf I64) (int (pos 5) ∷ int (pos 6) ∷ [])
present_list = refl

-- the record of 7, and an optional number that is 8 or null
abbrev mixed : Layout
mixed =
    union (bytes (pos 0 ∷ pos 1 ∷ pos 1 ∷ [])) (numbers (pos 0 ∷ pos 0 ∷ pos 1 ∷ []))
    (layouts_from
    (rows (Some (codes "x" ∷ [])) 1 (layouts_from (flat (numbers (pos 7 ∷ [])) ∷ []))
    ∷ byte_masked (bytes (pos 1 ∷ pos 0 ∷ [])) true (flat (bytes (pos 8 ∷ pos 9 ∷ []))) ∷ []))

abbrev record_of_x : DataType
record_of_x = rec (codes "x" ∷ []) (types_from (leaf I64 ∷ []))

record_alternative : at_place mixed 0 ≡ one record_of_x (row (values_from (int (pos 7) ∷ [])))
record_alternative = refl

present_alternative : at_place mixed 1 ≡ one (leaf I8) (int (pos 8))
present_alternative = refl

-- the option of an alternative is that of the whole
null_alternative : at_place mixed 2
    ≡ one (opt (uni (types_from (record_of_x ∷ leaf I8 ∷ [])))) null
null_alternative = refl

-- lists of one size, in a union in an option of a union
abbrev deep : Layout
deep =
    union (bytes (pos 0 ∷ [])) (numbers (pos 0 ∷ []))
    (layouts_from
    (optional (numbers (pos 0 ∷ []))
    (union (bytes (pos 1 ∷ [])) (numbers (pos 1 ∷ []))
    (layouts_from
    (flat (bytes []) ∷ regular 2 2 (flat (numbers (pos 1 ∷ pos 2 ∷ pos 3 ∷ pos 4 ∷ []))) ∷ [])))
    ∷ []))

list_deep_down : at_place deep 0 ≡ arr (leaf I64) (int (pos 3) ∷ int (pos 4) ∷ [])
list_deep_down = refl
