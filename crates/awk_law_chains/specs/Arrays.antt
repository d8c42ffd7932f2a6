-- Arrays that laws speak of.
use Rattle.std.specs.Prelude.{◌≤◌, ◌||◌, Bool, true, false, List, length, if◌then◌else◌}
use Rattle.std.specs.List.{AllByRecursion}
use Rattle.awk_types.specs.DataType.{DataType, unknown, leaf, var, reg, opt}
use Rattle.awk_types.specs.Datum.{Datum, arr, one}
use Rattle.awk_types.specs.Has.{Has}
use Rattle.awk_types.specs.ItemLimit.{item_limit}
use Rattle.awk_types.specs.Simple.{IsSimple}
use Rattle.awk_types.specs.Value.{Value}
use Rattle.awk_types.specs.declared.primitive.Primitive.TheVariants.{Bool as Truths}
use Rattle.awk_list_functions.specs.Reach.{here, inner}
use Rattle.awk_list_functions.specs.declared.place.Reach.{Reach}

-- items of a simple type
pub record AreItems (t : DataType) (vs : List Value) : Type 0 where
  pub simple : IsSimple t
  pub items : AllByRecursion (Has t) vs

-- no more than an operation may give
abbrev pub AreFew : List Value → Type 0
AreFew vs = length vs ≤ item_limit

-- whether a type is lists, optional or not, down to those of a reach
abbrev pub is_lists_to : Reach → DataType → Bool
is_lists_to k (var t) = here k t || is_lists_to (inner k) t
is_lists_to k (reg n t) = here k t || is_lists_to (inner k) t
is_lists_to k (opt t) = is_lists_to k t
is_lists_to k t = false

-- those lists, where they are all of one length, as lists of any
abbrev pub any_length_at : Reach → DataType → DataType
any_length_at k (var t) = var (if here k t then t else any_length_at (inner k) t)
any_length_at k (reg n t) = var (if here k t then t else any_length_at (inner k) t)
any_length_at k (opt t) = opt (any_length_at k t)
any_length_at k t = t

abbrev pub of_any_length : Reach → Datum → Datum
of_any_length k (arr t vs) = arr (any_length_at k t) vs
of_any_length k (one t v) = one (any_length_at k t) v

-- whether the items of the innermost lists are places, and no truth values
abbrev pub picks_by_place : DataType → Bool
picks_by_place unknown = true
picks_by_place (leaf Truths) = false
picks_by_place (leaf p) = true
picks_by_place (var t) = picks_by_place t
picks_by_place (reg n t) = picks_by_place t
picks_by_place (opt t) = picks_by_place t
picks_by_place t = false
