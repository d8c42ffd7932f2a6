-- Where the lists of a type end.
use Rattle.std.specs.Prelude.{Bool, true, false}
use Rattle.awk_types.specs.DataType.{DataType, var, reg, rec, opt}

-- whether there are records where lists end, options dropped
abbrev pub ends_at_records : DataType → Bool
ends_at_records (var t) = ends_at_records t
ends_at_records (reg n t) = ends_at_records t
ends_at_records (opt t) = ends_at_records t
ends_at_records (rec ns ts) = true
ends_at_records t = false
