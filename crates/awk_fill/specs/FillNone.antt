-- A value in the place of each null.
use Rattle.std.specs.Prelude.{map, ℤ, Option, Some, None, Result, Err, if◌then◌else◌}
use Rattle.awk_types.specs.DataType.{DataType, leaf, opt}
use Rattle.awk_types.specs.Datum.{Datum, arr, one}
use Rattle.awk_types.specs.Value.{Value, null}
use Rattle.awk_types.specs.declared.fault.Fault.{Fault}
use Rattle.awk_types.specs.declared.fault.Fault.TheVariants.{Axis, WrongType}
use Rattle.awk_list_functions.specs.Counted.{counted}
use Rattle.awk_list_functions.specs.Lifting.{lift}
use Rattle.awk_list_functions.specs.ListFunction.{ListFunction, lists}
use Rattle.awk_list_functions.specs.declared.causes.Refusal.{Refusal}
use Rattle.awk_list_functions.specs.declared.causes.Refusal.TheVariants as refused
use Rattle.awk_layout.specs.Filler.{Filler, literal, datum, is_filler, filler_value}
use Rattle.awk_unify.specs.Carry.{carried}
use Rattle.awk_unify.specs.Unification.{Unification}
use Rattle.awk_unify.specs.Unify.{unification}
use Rattle.awk_primitives.specs.Fits.{fits, literal_primitive}

-- the type of what fills nulls beside items of a type
abbrev pub filler_type : Filler → DataType → DataType
filler_type (literal z) t = leaf (literal_primitive t)
filler_type (datum (arr u vs)) t = u
filler_type (datum (one u v)) t = u

-- the items that are present and what fills nulls become values of one type
abbrev pub filling : Filler → DataType → Unification
filling f t = unification t (filler_type f t)

-- a literal is judged only where items are optional
abbrev pub literal_refusal : ℤ → DataType → Option Refusal
literal_refusal z (opt t) = if fits (literal_primitive t) z then None else Some refused.Overflow
literal_refusal z t = None

abbrev pub filler_refusal : Filler → DataType → Option Refusal
filler_refusal (literal z) t = literal_refusal z t
filler_refusal (datum d) t = if is_filler (datum d) then None else Some refused.WrongType

abbrev pub filled_type : Filler → DataType → DataType
filled_type f (opt t) = (filling f t).typ
filled_type f t = t

abbrev pub fill_value : Unification → Value → Value → Value
fill_value u w null = carried u.right w
fill_value u w v = carried u.left v

-- items that are not optional stay
abbrev pub filled : Filler → DataType → Value → Value
filled f (opt t) v = fill_value (filling f t) (filler_value f) v
filled f t v = v

abbrev pub fill_none_function : Filler → ListFunction
fill_none_function f = record {
  refusal = filler_refusal f;
  giving = lists (λ class. class) (filled_type f) (λ t vs. map (filled f t) vs);
  spoil = counted (λ t vs. map (filled f t) vs);
}

-- what is no filler is told after an axis, where no list is reached too
abbrev pub no_filler : Result Datum Fault → Result Datum Fault
no_filler (Err Axis) = Err Axis
no_filler r = Err WrongType

-- each null among the items of the lists at an axis as the value
abbrev pub fill_none_of : Datum → Filler → ℤ → Result Datum Fault
fill_none_of d f axis =
    let r = lift (fill_none_function f) axis d in
    if is_filler f then r else no_filler r
