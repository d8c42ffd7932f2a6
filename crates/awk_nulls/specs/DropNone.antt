-- The items that are not null.
use Rattle.std.specs.Prelude.{ℤ, Result}
use Rattle.awk_types.specs.Datum.{Datum}
use Rattle.awk_types.specs.declared.fault.Fault.{Fault}
use Rattle.awk_list_functions.specs.DropNone.{drop_none_function}
use Rattle.awk_list_functions.specs.Lifting.{lift}

-- the items of each list at an axis that are not null
abbrev pub drop_none_of : ℤ → Datum → Result Datum Fault
drop_none_of axis d = lift drop_none_function axis d
