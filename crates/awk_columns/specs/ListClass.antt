-- The class of lists: of any length, or of one.
use Rattle.std.specs.Prelude.{ℕ, Option, Some, None}
use Rattle.awk_types.specs.DataType.{DataType, var, reg}

-- the class of a list: of any length, or of one length
abbrev pub Class : Type 0
Class = Option ℕ

abbrev pub list_type : Class → DataType → DataType
list_type None t = var t
list_type (Some n) t = reg n t
