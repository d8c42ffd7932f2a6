-- How many items lists have together, level by level.
use Rattle.std.specs.Prelude.{List, length, filter, Option, None}
use Rattle.awk_types.specs.DataType.{DataType, var, reg, opt}
use Rattle.awk_types.specs.Gives.{◌or◌}
use Rattle.awk_types.specs.ItemLimit.{too_many}
use Rattle.awk_types.specs.Value.{Value}
use Rattle.awk_types.specs.declared.fault.Fault.{Fault}
use Rattle.awk_columns.specs.Columns.{joined_items, is_present}

-- the items of the lists of each level together
abbrev pub levels_refused : DataType → List Value → Option Fault
levels_refused (var t) vs =
    too_many (length (joined_items vs)) or levels_refused t (joined_items vs)
levels_refused (reg n t) vs =
    too_many (length (joined_items vs)) or levels_refused t (joined_items vs)
levels_refused (opt t) vs = levels_refused t (filter is_present vs)
levels_refused t vs = None

-- the first level, and those below
abbrev pub sizes_refused : DataType → List Value → Option Fault
sizes_refused t vs = too_many (length vs) or levels_refused t vs
