-- The innermost lists of an array or of a single value, in order: those whose items, options
-- dropped, are leaves.
use Rattle.std.specs.Prelude.{List, [], ◌∷◌, if◌then◌else◌}
use Rattle.std.specs.List.{flat_map}
use Rattle.awk_types.specs.DataType.{DataType, var, reg, opt}
use Rattle.awk_types.specs.Datum.{Datum, arr, one}
use Rattle.awk_types.specs.Predicates.{is_leaf}
use Rattle.awk_types.specs.Simple.{present}
use Rattle.awk_types.specs.Value.{Value}
use Rattle.awk_columns.specs.Columns.{list_items, list_of}
use Rattle.awk_frames.specs.Shape.{ends}

-- those in a value of a type
abbrev pub lists_in : DataType → Value → List (List Value)
lists_in (var t) v =
    if is_leaf (present t) then list_of v else flat_map (lists_in t) (list_items v)
lists_in (reg n t) v =
    if is_leaf (present t) then list_of v else flat_map (lists_in t) (list_items v)
lists_in (opt t) v = lists_in t v
lists_in t v = []

-- an array of leaves is itself one of them
abbrev pub innermost_lists : Datum → List (List Value)
innermost_lists (arr t vs) =
    if is_leaf (present t) then vs ∷ [] else flat_map (lists_in t) vs
innermost_lists (one t v) = lists_in t v

-- the type of their items
abbrev pub innermost_type : DataType → DataType
innermost_type (var t) = if is_leaf (present t) then t else innermost_type t
innermost_type (reg n t) = if is_leaf (present t) then t else innermost_type t
innermost_type (opt t) = if is_leaf t then opt t else innermost_type t
innermost_type t = t

-- what stands where lists and options end, in order, without nulls where there may be any
abbrev pub leaves_in : Datum → List Value
leaves_in (arr t vs) = ends t vs
leaves_in (one t v) = ends t (v ∷ [])
