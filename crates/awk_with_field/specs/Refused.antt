-- What is told where an array as one list passes a limit beside a single value.
use Rattle.std.specs.Prelude.{◌≡◌, List, true}
use Rattle.awk_types.specs.DataType.{Name, DataType}
use Rattle.awk_types.specs.Datum.{arr, one}
use Rattle.awk_types.specs.Faults.{fault_told}
use Rattle.awk_types.specs.Gives.{Told}
use Rattle.awk_types.specs.Simple.{IsSimple}
use Rattle.awk_types.specs.Value.{Value}
use Rattle.awk_types.specs.declared.fault.Fault.{Fault}
use Rattle.awk_put_field.specs.Ends.{ends_at_records}
use Rattle.awk_with_field.specs.WithField.{with_field_of}

-- the fault of any single value of records with any array
abbrev pub IsListFault : Name → DataType → DataType → Fault → Type 0
IsListFault n t u f =
    (w : Value) (ws : List Value) → IsSimple t → ends_at_records t ≡ true
    → Told (fault_told f) (with_field_of n (one t w) (arr u ws))
