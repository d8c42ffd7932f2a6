-- What the parts of a call answer before its result is made.
use Rattle.std.specs.Prelude.{◌≡◌, Option, None, Result, Ok, Err}
use Rattle.awk_types.specs.Datum.{Datum}
use Rattle.awk_types.specs.Faults.{fault_told}
use Rattle.awk_types.specs.Gives.{Told, refused_or}
use Rattle.awk_types.specs.Limit.{Limit}
use Rattle.awk_types.specs.declared.fault.Fault.{Fault}
use Rattle.awk_list_functions.specs.declared.causes.Refusal.{Refusal}
use Rattle.awk_list_functions.specs.declared.causes.Spoil.{Spoil}
use Rattle.awk_list_functions.specs.Lifting.{first_told}

-- types tell nothing, or what they tell is told whatever the values are
abbrev pub IsJudged : {X : Type 0} → Option Refusal → Option Limit → Result X Fault → Type 0
IsJudged r l (Ok u) = (r ≡ None) × (l ≡ None)
IsJudged r l (Err e) =
    (s : Option Spoil) (d : Datum) → Told (fault_told e) (refused_or (first_told r l s) d)
