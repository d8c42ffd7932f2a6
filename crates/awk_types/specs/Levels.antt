-- How many lists lie down to the leaves of a type, where all branches are equally deep, and the
-- axis that an axis stands for where a negative one counts from the innermost lists.
use Rattle.std.specs.Prelude.{ℕ, suc, ◌==◌, Bool, false, ℤ, pos, negsuc, ◌+ℤ◌, List, [], ◌∷◌}
use Rattle.std.specs.Prelude.{Option, Some, None, option_map, if◌then◌else◌}
use Rattle.std.specs.List.{list_all}
use Rattle.awk_types.specs.DataType.{DataType, unknown, leaf, var, reg, rec, tup, opt, uni}
use Rattle.awk_types.specs.DataType.{DataTypes, no_types, type}
use Rattle.awk_types.specs.Datum.{Datum, arr, one}

abbrev pub is_number : ℕ → Option ℕ → Bool
is_number n (Some m) = m == n
is_number n None = false

-- the one number that all have. There is none where they differ, where one has none, and of no
-- parts.
abbrev pub common_number : List (Option ℕ) → Option ℕ
common_number [] = None
common_number (None ∷ ns) = None
common_number (Some n ∷ ns) = if list_all (is_number n) ns then Some n else None

abbrev mutual
  pub levels : DataType → Option ℕ
  levels unknown = Some 0
  levels (leaf p) = Some 0
  levels (var t) = option_map suc (levels t)
  levels (reg n t) = option_map suc (levels t)
  levels (rec ns ts) = common_number (levels_each ts)
  levels (tup ts) = common_number (levels_each ts)
  levels (opt t) = levels t
  levels (uni ts) = common_number (levels_each ts)

  pub levels_each : DataTypes → List (Option ℕ)
  levels_each no_types = []
  levels_each (type t ts) = levels t ∷ levels_each ts

-- an array is itself a list
abbrev pub datum_levels : Datum → Option ℕ
datum_levels (arr t vs) = option_map suc (levels t)
datum_levels (one t v) = levels t

-- the axis that an axis stands for where so many lists lie down to the leaves. What stays negative
-- is no axis.
abbrev pub turned_axis : Option ℕ → ℤ → ℤ
turned_axis (Some n) (negsuc a) = pos n +ℤ negsuc a
turned_axis o axis = axis
