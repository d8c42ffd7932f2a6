-- The types of operands, so many levels down.
use Rattle.std.specs.Prelude.{ℕ, zero, suc, Bool, List}
use Rattle.std.specs.List.{list_any, list_all}
use Rattle.awk_types.specs.DataType.{DataType}
use Rattle.awk_types.specs.Datum.{datum_type}
use Rattle.awk_types.specs.Parts.{item_of}
use Rattle.awk_types.specs.Predicates.{is_leaf, is_list}
use Rattle.awk_types.specs.Simple.{present}
use Rattle.awk_layout.specs.Single.{own_datum}
use Rattle.awk_layout.specs.declared.datum.Operand.{Operand}

-- without its option
abbrev pub down : ℕ → DataType → DataType
down zero t = present t
down (suc k) t = down k (item_of (present t))

abbrev pub operand_type : Operand → DataType
operand_type x = datum_type (own_datum x)

-- whether an operand is a list, or a leaf, so many levels down
abbrev pub lists_down : ℕ → Operand → Bool
lists_down k x = is_list (down k (operand_type x))

abbrev pub leaf_down : ℕ → Operand → Bool
leaf_down k x = is_leaf (down k (operand_type x))

abbrev pub opens_down : ℕ → List Operand → Bool
opens_down k xs = list_any (lists_down k) xs

abbrev pub leaves_down : ℕ → List Operand → Bool
leaves_down k xs = list_all (leaf_down k) xs
