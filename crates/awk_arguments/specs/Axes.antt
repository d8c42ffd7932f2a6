-- The axis that is handed to an operation: a negative one counts from the innermost lists.
use Rattle.std.specs.Prelude.{ℤ, List, map, Result}
use Rattle.awk_types.specs.Datum.{Datum}
use Rattle.awk_types.specs.Levels.{common_number, datum_levels, turned_axis}
use Rattle.awk_types.specs.declared.fault.Fault.{Fault}

-- the axis that an axis of a datum stands for
abbrev pub axis_in : Datum → ℤ → ℤ
axis_in d axis = turned_axis (datum_levels d) axis

-- the axis that an axis of several data stands for: the same in all
abbrev pub axis_among : List Datum → ℤ → ℤ
axis_among ds axis = turned_axis (common_number (map datum_levels ds)) axis

-- an operation at the axis that an axis of its datum stands for
abbrev pub at_axis : (ℤ → Datum → Result Datum Fault) → ℤ → Datum → Result Datum Fault
at_axis f axis d = f (axis_in d axis) d

-- and at the axis that an axis of all its data stands for
abbrev pub at_common_axis : (ℤ → List Datum → Result Datum Fault) → ℤ → List Datum
    → Result Datum Fault
at_common_axis f axis ds = f (axis_among ds axis) ds
