-- Data without their items, and the types that they are paired to.
use Rattle.std.specs.Prelude.{◌≡◌, ℕ, suc, ◌≤◌, Bool, List, [], map, Option}
use Rattle.awk_types.specs.DataType.{DataType, var, reg, opt, greatest}
use Rattle.awk_types.specs.Datum.{Datum, arr, datum_type}
use Rattle.awk_layout.specs.Datum.{IsOperand}
use Rattle.awk_layout.specs.Single.{own_datum}
use Rattle.awk_layout.specs.declared.datum.Operand.{Operand}
use Rattle.awk_pair_operands.specs.Pairs.{pair_type, leaf_types, has_wrong_end}

-- no items of the type of a datum
abbrev pub emptied : Datum → Datum
emptied d = arr (datum_type d) []

-- how many lists and options lie above what is neither
abbrev pub height : DataType → ℕ
height (var t) = suc (height t)
height (reg n t) = suc (height t)
height (opt t) = suc (height t)
height t = 0

abbrev pub heights : List DataType → ℕ
heights ts = greatest (map height ts)

pub record IsEmptied (x y : Operand) : Type 0 where
  pub datum : own_datum y ≡ emptied (own_datum x)
  pub operand : IsOperand y
  pub shallow : height (datum_type (own_datum x)) ≤ 60

-- data without items are paired to a depth e to the types that the data are paired to at d
pub record HasTypes (d e : Option ℕ) (ds : List Datum) : Type 0 where
  pub typ : (keep : Bool) → pair_type keep e (map emptied ds) ≡ pair_type keep d ds
  pub ends : leaf_types e (map emptied ds) ≡ leaf_types d ds
  pub right : has_wrong_end e (map emptied ds) ≡ has_wrong_end d ds
