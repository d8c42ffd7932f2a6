-- A function of one list lifted to the lists at an axis of a datum, and to its innermost lists: the
-- first fault in order, or the result.
use Rattle.std.specs.Prelude.{zero, suc, List, [], ◌∷◌, map, length, ℤ, pos, negsuc, Option, None}
use Rattle.std.specs.Prelude.{option_map, Result, Err, if◌then◌else◌}
use Rattle.awk_types.specs.DataType.{DataType}
use Rattle.awk_types.specs.Value.{Value}
use Rattle.awk_types.specs.Datum.{Datum, arr, one}
use Rattle.awk_types.specs.Faults.{limit_fault}
use Rattle.awk_types.specs.Gives.{refused_or, ◌or◌}
use Rattle.awk_types.specs.Limit.{Limit, limit}
use Rattle.awk_types.specs.Settle.{settle}
use Rattle.awk_types.specs.Simple.{present, simple, simple_value}
use Rattle.awk_types.specs.declared.fault.Fault.{Fault}
use Rattle.awk_types.specs.declared.fault.Fault.TheVariants as fault
use Rattle.awk_list_functions.specs.declared.causes.Refusal.{Refusal}
use Rattle.awk_list_functions.specs.declared.causes.Refusal.TheVariants as refused
use Rattle.awk_list_functions.specs.declared.causes.Spoil.{Spoil}
use Rattle.awk_list_functions.specs.declared.causes.Spoil.TheVariants as spoilt
use Rattle.awk_list_functions.specs.declared.place.Reach.{Reach}
use Rattle.awk_list_functions.specs.declared.place.Reach.TheVariants.{Axis, Innermost}
use Rattle.awk_list_functions.specs.Causes.{first_spoil}
use Rattle.awk_list_functions.specs.ListFunction.{ListFunction, made_type, given_type, given_value}
use Rattle.awk_types.specs.Predicates.{is_leaf}
use Rattle.awk_list_functions.specs.Lift.{lifted_type, lifted_value, refusal_at}
use Rattle.awk_list_functions.specs.Spoils.{spoil_at, too_many}

abbrev pub refusal_fault : Refusal → Fault
refusal_fault refused.Axis = fault.Axis
refusal_fault refused.WrongType = fault.WrongType
refusal_fault refused.Overflow = fault.Overflow

abbrev pub spoil_fault : Spoil → Fault
spoil_fault spoilt.Index = fault.Index
spoil_fault spoilt.Size = fault.Size
spoil_fault spoilt.Overflow = fault.Overflow

-- the first of what types tell, of the limit of the type of the result, and of what values tell
abbrev pub first_told : Option Refusal → Option Limit → Option Spoil → Option Fault
first_told r l s =
    option_map refusal_fault r or option_map limit_fault l or option_map spoil_fault s

-- the whole array as one list: what is given is settled. Of a list that is given the limit is
-- judged of the type of its items.
abbrev pub on_whole : ListFunction → DataType → List Value → Result Datum Fault
on_whole f t vs =
    let u = given_type f.giving None t in
    let told =
    first_told (f.refusal t) (limit (simple (made_type f.giving t))) (f.spoil t (vs ∷ [])) in
    refused_or told (settle (simple u) (simple_value u (given_value f.giving t vs)))

-- the lists inside the items of an array
abbrev pub on_items : ListFunction → Reach → DataType → List Value → Result Datum Fault
on_items f k t vs =
    let u = lifted_type f.giving k t in
    let spoil = first_spoil (too_many (length vs)) (spoil_at f k t vs) in
    refused_or (first_told (refusal_at f k t) (limit (simple u)) spoil)
    (arr (simple u) (map (λ v. simple_value u (lifted_value f.giving k t v)) vs))

-- the lists inside a single value
abbrev pub on_one : ListFunction → Reach → DataType → Value → Result Datum Fault
on_one f k t v =
    let u = lifted_type f.giving k t in
    refused_or (first_told (refusal_at f k t) (limit (simple u)) (spoil_at f k t (v ∷ [])))
    (one (simple u) (simple_value u (lifted_value f.giving k t v)))

-- the lists at an axis: axis 0 of an array is the array itself, and axis 0 of a single value the
-- lists directly inside
abbrev pub lift : ListFunction → ℤ → Datum → Result Datum Fault
lift f (negsuc a) d = Err fault.Axis
lift f (pos zero) (arr t vs) = on_whole f t vs
lift f (pos (suc k)) (arr t vs) = on_items f (Axis k) t vs
lift f (pos k) (one t v) = on_one f (Axis k) t v

-- the innermost lists: an array of leaves is itself one of them
abbrev pub deep : ListFunction → Datum → Result Datum Fault
deep f (arr t vs) = if is_leaf (present t) then on_whole f t vs else on_items f Innermost t vs
deep f (one t v) = on_one f Innermost t v
