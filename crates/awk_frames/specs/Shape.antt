-- The lists and nulls of a column of paired values, as lanes, and what stands at its ends.
use Rattle.std.specs.Prelude.{ℕ, List, length, filter, Some, None}
use Rattle.awk_types.specs.DataType.{DataType, var, reg, opt}
use Rattle.awk_types.specs.Value.{Value}
use Rattle.awk_lanes.specs.Column.{Column}
use Rattle.awk_lanes.specs.declared.kind.Kind.TheVariants.{I64}
use Rattle.awk_columns.specs.Columns.{joined_items, is_present, offsets, option_index}
use Rattle.awk_columns.specs.ListClass.{Class}

pub data Shape : Type 0 where
  -- so many ends
  leaves : ℕ → Shape
  -- lists by their offsets into what is below
  items : Column → Class → Shape → Shape
  -- an index into what is below, with nulls
  missing : Column → Shape → Shape

-- the offsets of lists that lie one after another
abbrev pub offsets_column : List Value → Column
offsets_column vs = record { kind = I64; items = offsets 0 vs }

-- the numbers of an index as a column of i64, whatever its width
abbrev pub numbers_of : Column → Column
numbers_of j = record { kind = I64; items = j.items }

-- an index that counts what is not null
abbrev pub index_column : List Value → Column
index_column vs = record { kind = I64; items = option_index 0 vs }

-- the lists and nulls of values of a type, down to what is neither
abbrev pub shape : DataType → List Value → Shape
shape (var t) vs = items (offsets_column vs) None (shape t (joined_items vs))
shape (reg n t) vs = items (offsets_column vs) (Some n) (shape t (joined_items vs))
shape (opt t) vs = missing (index_column vs) (shape t (filter is_present vs))
shape t vs = leaves (length vs)

-- what stands at the ends, in order
abbrev pub ends : DataType → List Value → List Value
ends (var t) vs = ends t (joined_items vs)
ends (reg n t) vs = ends t (joined_items vs)
ends (opt t) vs = ends t (filter is_present vs)
ends t vs = vs
