-- The lists at an axis of an array or of a single value, in order, each with the type of its items.
-- Axis 0 of an array is the array itself, and axis 0 of a single value the lists directly inside.
use Rattle.std.specs.Prelude.{ℕ, zero, suc, ◌-◌, ◌==◌, ℤ, pos, negsuc, List, [], ◌∷◌, ◌++◌}
use Rattle.std.specs.Prelude.{if◌then◌else◌}
use Rattle.std.specs.List.{flat_map}
use Rattle.awk_types.specs.DataType.{DataType, DataTypes, unknown, leaf, var, reg, rec, tup, opt}
use Rattle.awk_types.specs.DataType.{uni, no_types, type}
use Rattle.awk_types.specs.Datum.{Datum, arr, one}
use Rattle.awk_types.specs.Value.{Value, null, list, alt, value_list}
use Rattle.awk_columns.specs.Columns.{list_items, row_parts, tag_of}

abbrev pub TypedList : Type 0
TypedList = DataType × List Value

abbrev pub typed_list : DataType → Value → List TypedList
typed_list t (list vs) = (t, value_list vs) ∷ []
typed_list t v = []

abbrev pub alternative_of : Value → Value
alternative_of (alt k v) = v
alternative_of v = null

-- those in a value of a type, through lists, options, parts of records and alternatives
abbrev mutual
  pub lists_at : ℕ → DataType → Value → List TypedList
  lists_at a unknown v = []
  lists_at a (leaf p) v = []
  lists_at a (var t) v =
      if a == 0 then typed_list t v else flat_map (lists_at (a - 1) t) (list_items v)
  lists_at a (reg n t) v =
      if a == 0 then typed_list t v else flat_map (lists_at (a - 1) t) (list_items v)
  lists_at a (rec ns ts) v = lists_in_parts a ts (row_parts v)
  lists_at a (tup ts) v = lists_in_parts a ts (row_parts v)
  lists_at a (opt t) v = lists_at a t v
  lists_at a (uni ts) v = lists_in_alternative a ts (tag_of v) (alternative_of v)

  pub lists_in_parts : ℕ → DataTypes → List Value → List TypedList
  lists_in_parts a no_types vs = []
  lists_in_parts a (type t ts) [] = []
  lists_in_parts a (type t ts) (v ∷ vs) = lists_at a t v ++ lists_in_parts a ts vs

  pub lists_in_alternative : ℕ → DataTypes → ℕ → Value → List TypedList
  lists_in_alternative a no_types k v = []
  lists_in_alternative a (type t ts) zero v = lists_at a t v
  lists_in_alternative a (type t ts) (suc k) v = lists_in_alternative a ts k v

abbrev pub lists_of : ℤ → Datum → List TypedList
lists_of (negsuc a) d = []
lists_of (pos zero) (arr t vs) = (t, vs) ∷ []
lists_of (pos (suc a)) (arr t vs) = flat_map (lists_at a t) vs
lists_of (pos a) (one t v) = lists_at a t v
