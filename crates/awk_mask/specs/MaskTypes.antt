-- What types tell of an array under a mask, before it is made.
use Rattle.std.specs.Prelude.{◌≡◌, Option, None, Result, Ok, Err}
use Rattle.awk_types.specs.Datum.{Datum}
use Rattle.awk_types.specs.Faults.{fault_told}
use Rattle.awk_types.specs.Gives.{Told, refused_or, ◌or◌}
use Rattle.awk_types.specs.declared.fault.Fault.{Fault}

-- a test tells nothing, or a fault that is told whatever comes after it
abbrev pub IsJudged : {X : Type 0} → Option Fault → Result X Fault → Type 0
IsJudged refused (Ok u) = refused ≡ None
IsJudged refused (Err e) =
    (later : Option Fault) (d : Datum) → Told (fault_told e) (refused_or (refused or later) d)
