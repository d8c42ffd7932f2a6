-- What a variable holds: an array of items of a type, or one value of a type.
use Rattle.std.specs.Prelude.{List}
use Rattle.awk_types.specs.DataType.{DataType}
use Rattle.awk_types.specs.Value.{Value}

pub data Datum : Type 0 where
  arr : DataType → List Value → Datum
  one : DataType → Value → Datum

-- the type of an array's items, or of a single value
abbrev pub datum_type : Datum → DataType
datum_type (arr t vs) = t
datum_type (one t v) = t
