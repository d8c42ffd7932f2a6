-- Data: arrays, and single values as arrays of one item.
use Rattle.std.specs.Prelude.{◌≡◌, pos, negsuc, ◌≤ℤ◌}
use Rattle.awk_types.specs.Datum as shown
use Rattle.awk_types.specs.Simple.{simple_value}
use Rattle.awk_types.specs.Value.{Value}
use Rattle.awk_layout.specs.Layout.{Layout}
use Rattle.awk_layout.specs.Valid.{len}
use Rattle.awk_layout.specs.Item.{item}
use Rattle.awk_layout.specs.Typing.{layout_type, array_type, array_items}
use Rattle.awk_layout.specs.declared.datum.Datum.{Datum}
use Rattle.awk_layout.specs.declared.datum.Datum.TheVariants.{Arr, One}
use Rattle.awk_layout.specs.declared.datum.Operand.{Operand}
use Rattle.awk_layout.specs.declared.datum.Operand.TheVariants.{Of, Literal}

-- the first item of an array
abbrev pub first_item : Layout → Value
first_item x = simple_value (layout_type x) (item x 0)

abbrev pub datum_of : Datum → shown.Datum
datum_of (Arr x) = shown.arr (array_type x) (array_items x)
datum_of (One x) = shown.one (array_type x) (first_item x)

-- the array that a datum is kept as
abbrev pub kept : Datum → Layout
kept (Arr x) = x
kept (One x) = x

-- a single value is an array of one item
abbrev pub IsDatum : Datum → Type 0
IsDatum (Arr x) = Unit {0}
IsDatum (One x) = len x ≡ 1

-- an operand is a datum, or a whole number from the least i64 to the greatest u64
abbrev pub IsOperand : Operand → Type 0
IsOperand (Of x) = IsDatum x
IsOperand (Literal z) = (negsuc 9223372036854775807 ≤ℤ z) × (z ≤ℤ pos 18446744073709551615)
