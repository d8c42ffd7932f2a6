-- What stands in one datum in the places of the lists at an axis of another, in order, where the
-- first was made of the second by a function of each of these lists. Of a datum itself it is these
-- lists, and null where one of them is null.
use Rattle.std.specs.Prelude.{ℕ, zero, suc, ◌-◌, ◌==◌, ℤ, pos, negsuc, List, [], ◌∷◌, ◌++◌}
use Rattle.std.specs.Prelude.{if◌then◌else◌}
use Rattle.awk_types.specs.DataType.{DataType, DataTypes, unknown, leaf, var, reg, rec, tup, opt}
use Rattle.awk_types.specs.DataType.{uni, no_types, type}
use Rattle.awk_types.specs.Datum.{Datum, arr, one}
use Rattle.awk_types.specs.Value.{Value, list, alt, values_from}
use Rattle.awk_columns.specs.Columns.{list_items, row_parts}
use Rattle.awk_laws.specs.Axes.{alternative_of}

abbrev pub datum_value : Datum → Value
datum_value (arr t vs) = list (values_from vs)
datum_value (one t v) = v

-- for two lists side by side
abbrev pub side_by_side : (Value → Value → List Value) → List Value → List Value → List Value
side_by_side f [] ws = []
side_by_side f (v ∷ vs) [] = []
side_by_side f (v ∷ vs) (w ∷ ws) = f v w ++ side_by_side f vs ws

-- in w in the places of the lists at an axis of v, a value of a type. An alternative of w need not
-- have the place of that of v, nor be there: what is given for a list may be null or of a union,
-- and then belongs to the union above.
abbrev mutual
  pub value_in_place : ℕ → DataType → Value → Value → List Value
  value_in_place a unknown v w = []
  value_in_place a (leaf p) v w = []
  value_in_place a (var t) v w =
      if a == 0 then w ∷ []
      else side_by_side (value_in_place (a - 1) t) (list_items v) (list_items w)
  value_in_place a (reg n t) v w =
      if a == 0 then w ∷ []
      else side_by_side (value_in_place (a - 1) t) (list_items v) (list_items w)
  value_in_place a (rec ns ts) v w = parts_in_place a ts (row_parts v) (row_parts w)
  value_in_place a (tup ts) v w = parts_in_place a ts (row_parts v) (row_parts w)
  value_in_place a (opt t) v w = value_in_place a t v w
  value_in_place a (uni ts) (alt k v) w = alternative_in_place a ts k v (alternative_of w)
  value_in_place a (uni ts) v w = []

  pub parts_in_place : ℕ → DataTypes → List Value → List Value → List Value
  parts_in_place a no_types vs ws = []
  parts_in_place a (type t ts) [] ws = []
  parts_in_place a (type t ts) (v ∷ vs) [] = []
  parts_in_place a (type t ts) (v ∷ vs) (w ∷ ws) =
      value_in_place a t v w ++ parts_in_place a ts vs ws

  pub alternative_in_place : ℕ → DataTypes → ℕ → Value → Value → List Value
  alternative_in_place a no_types k v w = []
  alternative_in_place a (type t ts) zero v w = value_in_place a t v w
  alternative_in_place a (type t ts) (suc k) v w = alternative_in_place a ts k v w

abbrev pub in_place : ℤ → Datum → Datum → List Value
in_place (negsuc a) d e = []
in_place (pos zero) (arr t vs) e = datum_value e ∷ []
in_place (pos (suc a)) (arr t vs) e =
    side_by_side (value_in_place a t) vs (list_items (datum_value e))
in_place (pos a) (one t v) e = value_in_place a t v (datum_value e)
