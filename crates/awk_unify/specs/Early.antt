-- Types that are equal, and types that are unknown.
use Rattle.std.specs.Prelude.{Option, Some, None, if◌then◌else◌}
use Rattle.awk_types.specs.DataType.{DataType}
use Rattle.awk_types.specs.SameType.{same_type}
use Rattle.awk_unify.specs.Carry.{keep}
use Rattle.awk_unify.specs.Unification.{Unification}
use Rattle.awk_types.specs.Predicates.{is_unknown}

-- the type, where the values of both sides stay
abbrev pub as_it_is : DataType → Unification
as_it_is t = record { typ = t; left = keep; right = keep }

-- what two types unify to where they are equal or one is unknown
abbrev pub early : DataType → DataType → Option Unification
early a b =
    if same_type a b then Some (as_it_is a)
    else if is_unknown a then Some (as_it_is b)
    else if is_unknown b then Some (as_it_is a)
    else None
