-- The type of lists of a class: how deep it is, that it is no option, and what is of it.
use Rattle.std.specs.Prelude.{◌+◌, None, Some, ◌≡◌, false, refl}
use Rattle.std.proofs.Common.{arith}
use Rattle.std.specs.List.{AllByRecursion}
use Rattle.awk_types.specs.DataType.{DataType, depth}
use Rattle.awk_types.specs.Simple.{is_option}
use Rattle.awk_types.specs.Has.{Has}
use Rattle.awk_types.specs.Value.{Value, alt, int, list, null, row, truth}
use Rattle.awk_columns.specs.ListClass.{Class, list_type}
use Rattle.awk_columns.specs.Columns.{list_items}

pub depth-list : (class : Class) (t : DataType) → depth (list_type class t) ≡ depth t + 1
depth-list None t = omega arith
depth-list (Some n) t = omega arith

pub list_no_option : (c : Class) (t : DataType) → is_option (list_type c t) ≡ false
list_no_option None t = refl
list_no_option (Some n) t = refl

pub list-has : (c : Class) (t : DataType) (v : Value) → Has (list_type c t) v
    → AllByRecursion (Has t) (list_items v)
list-has None t (list ws) h = h
list-has (Some n) t (list ws) h = h.1
list-has None t (int z) h = absurd h
list-has None t (truth b) h = absurd h
list-has None t null h = absurd h
list-has None t (row ws) h = absurd h
list-has None t (alt k w) h = absurd h
list-has (Some n) t (int z) h = absurd h
list-has (Some n) t (truth b) h = absurd h
list-has (Some n) t null h = absurd h
list-has (Some n) t (row ws) h = absurd h
list-has (Some n) t (alt k w) h = absurd h
