-- Settling: what a single value of a type is as a datum.
use Rattle.std.specs.Prelude.{ℕ, zero, suc}
use Rattle.awk_types.specs.DataType.{DataType, unknown, var, reg, opt, uni, DataTypes, no_types}
use Rattle.awk_types.specs.DataType.{type}
use Rattle.awk_types.specs.Value.{Value, null, list, alt, value_list}
use Rattle.awk_types.specs.Datum.{Datum, arr, one}

-- a list is the array of its items, a value that is present loses its option, and an alternative
-- its union
abbrev mutual
  pub settle : DataType → Value → Datum
  settle (opt t) null = one (opt t) null
  settle (opt t) v = settle t v
  settle (uni ts) (alt k v) = settle_alternative ts k v
  settle (var t) (list vs) = arr t (value_list vs)
  settle (reg n t) (list vs) = arr t (value_list vs)
  settle t v = one t v

  -- the value of the alternative at place k; no value is of a place beyond the last one
  pub settle_alternative : DataTypes → ℕ → Value → Datum
  settle_alternative no_types k v = one unknown v
  settle_alternative (type t ts) zero v = settle t v
  settle_alternative (type t ts) (suc k) v = settle_alternative ts k v
