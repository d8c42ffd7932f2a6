-- The types of the parts of a row, and of the alternatives of a union.
use Rattle.std.specs.Prelude.{List, []}
use Rattle.awk_types.specs.DataType.{DataType, rec, tup, type_list, uni}

-- the types of parts or alternatives, in order
abbrev pub part_types : DataType → List DataType
part_types (rec ns ts) = type_list ts
part_types (tup ts) = type_list ts
part_types (uni ts) = type_list ts
part_types t = []
