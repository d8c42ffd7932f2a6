-- Types of rows.
use Rattle.std.specs.Prelude.{Bool, true, false, Option, Some, None}
use Rattle.awk_types.specs.DataType.{DataType, unknown, var, reg, opt}

-- rows of items of a type: whether they are optional, and the type of what they hold. Unknown
-- counts as rows of unknown.
abbrev pub rows_of : DataType → Option (Bool × DataType)
rows_of unknown = Some (false, unknown)
rows_of (var t) = Some (false, t)
rows_of (reg n t) = Some (false, t)
rows_of (opt unknown) = Some (true, unknown)
rows_of (opt (var t)) = Some (true, t)
rows_of (opt (reg n t)) = Some (true, t)
rows_of t = None
