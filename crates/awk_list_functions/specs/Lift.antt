-- A function of one list, applied to each list of a reach: those at an axis, or the innermost ones.
-- It goes through options, where null stays null, through rows and unions, and through a list,
-- which
-- keeps its class, to its items. For an axis unknown counts as lists of any length of unknown.
use Rattle.std.specs.Prelude.{ℕ, zero, suc, min, List, [], ◌∷◌, Option, Some, None, if◌then◌else◌}
use Rattle.awk_types.specs.DataType.{DataType, unknown, leaf, var, reg, rec, tup, opt, uni}
use Rattle.awk_types.specs.DataType.{DataTypes, no_types, type, types_from}
use Rattle.awk_types.specs.Value.{Value, list, value_list}
use Rattle.awk_types.specs.Simple.{in_list, in_row, in_option, in_alternative}
use Rattle.awk_list_functions.specs.declared.causes.Refusal.{Refusal}
use Rattle.awk_list_functions.specs.declared.causes.Refusal.TheVariants.{Axis as NoAxis, WrongType}
use Rattle.awk_list_functions.specs.declared.place.Reach.{Reach}
use Rattle.awk_list_functions.specs.declared.place.Reach.TheVariants.{Axis, Innermost}
use Rattle.awk_list_functions.specs.Causes.{sooner}
use Rattle.awk_list_functions.specs.Reach.{here, inner, passes_rows}
use Rattle.awk_list_functions.specs.ListFunction.{Giving, ListFunction, given_type, given_value}

-- ---- types

-- k lists of any length around a type
abbrev pub nested : ℕ → DataType → DataType
nested zero t = t
nested (suc k) t = var (nested k t)

-- what is given where nothing is known: as many lists as lie above the axis. 61 are deeper than any
-- type may be, and so are more.
abbrev pub below_unknown : Reach → DataType → DataType
below_unknown (Axis k) t = nested (min k 61) t
below_unknown Innermost t = unknown

abbrev mutual
  pub lifted_type : Giving → Reach → DataType → DataType
  lifted_type g k unknown = below_unknown k (given_type g None unknown)
  lifted_type g k (leaf p) = leaf p
  lifted_type g k (var t) =
      if here k t then given_type g None t else var (lifted_type g (inner k) t)
  lifted_type g k (reg n t) =
      if here k t then given_type g (Some n) t else reg n (lifted_type g (inner k) t)
  lifted_type g k (rec ns ts) = rec ns (types_from (lifted_types g k ts))
  lifted_type g k (tup ts) = tup (types_from (lifted_types g k ts))
  lifted_type g k (opt t) = opt (lifted_type g k t)
  lifted_type g k (uni ts) = uni (types_from (lifted_types g k ts))

  pub lifted_types : Giving → Reach → DataTypes → List DataType
  lifted_types g k no_types = []
  lifted_types g k (type t ts) = lifted_type g k t ∷ lifted_types g k ts

-- why a type without lists is refused: at an axis unknown has lists
abbrev pub unknown_refusal : ListFunction → Reach → Option Refusal
unknown_refusal f (Axis k) = f.refusal unknown
unknown_refusal f Innermost = Some NoAxis

-- why the type is refused: a leaf has no list at the axis, and no innermost list is below a row or
-- a union
abbrev mutual
  pub refusal_at : ListFunction → Reach → DataType → Option Refusal
  refusal_at f k unknown = unknown_refusal f k
  refusal_at f k (leaf p) = Some NoAxis
  refusal_at f k (var t) = if here k t then f.refusal t else refusal_at f (inner k) t
  refusal_at f k (reg n t) = if here k t then f.refusal t else refusal_at f (inner k) t
  refusal_at f k (rec ns ts) = if passes_rows k then refusal_among f k ts else Some WrongType
  refusal_at f k (tup ts) = if passes_rows k then refusal_among f k ts else Some WrongType
  refusal_at f k (opt t) = refusal_at f k t
  refusal_at f k (uni ts) = if passes_rows k then refusal_among f k ts else Some WrongType

  pub refusal_among : ListFunction → Reach → DataTypes → Option Refusal
  refusal_among f k no_types = None
  refusal_among f k (type t ts) = sooner (refusal_at f k t) (refusal_among f k ts)

-- ---- values

-- a list by the function, and every other value as it is
abbrev pub on_list : (List Value → Value) → Value → Value
on_list f (list vs) = f (value_list vs)
on_list f v = v

abbrev mutual
  pub lifted_value : Giving → Reach → DataType → Value → Value
  lifted_value g k unknown v = v
  lifted_value g k (leaf p) v = v
  lifted_value g k (var t) v =
      if here k t then on_list (given_value g t) v else in_list (lifted_value g (inner k) t) v
  lifted_value g k (reg n t) v =
      if here k t then on_list (given_value g t) v else in_list (lifted_value g (inner k) t) v
  lifted_value g k (rec ns ts) v = in_row (lifted_values g k ts) v
  lifted_value g k (tup ts) v = in_row (lifted_values g k ts) v
  lifted_value g k (opt t) v = in_option (lifted_value g k t) v
  lifted_value g k (uni ts) v = in_alternative (lifted_values g k ts) v

  pub lifted_values : Giving → Reach → DataTypes → List (Value → Value)
  lifted_values g k no_types = []
  lifted_values g k (type t ts) = lifted_value g k t ∷ lifted_values g k ts
