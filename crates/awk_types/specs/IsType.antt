-- Which trees are types: the names of a record are distinct and as many as its types, and a union
-- has an alternative.
use Rattle.std.specs.Prelude.{◌≡◌, ℕ, ◌≤◌, length}
use Rattle.awk_types.specs.DataType.{DataType, unknown, leaf, var, reg, rec, tup, opt, uni}
use Rattle.awk_types.specs.DataType.{DataTypes, no_types, type, type_list}
use Rattle.awk_types.specs.Names.{AreDistinct}

abbrev pub count : DataTypes → ℕ
count ts = length (type_list ts)

abbrev mutual
  pub IsType : DataType → Type 0
  IsType unknown = Unit {0}
  IsType (leaf p) = Unit {0}
  IsType (var t) = IsType t
  IsType (reg n t) = IsType t
  IsType (rec ns ts) = AreDistinct ns × (length ns ≡ count ts) × AreTypes ts
  IsType (tup ts) = AreTypes ts
  IsType (opt t) = IsType t
  IsType (uni ts) = (1 ≤ count ts) × AreTypes ts

  pub AreTypes : DataTypes → Type 0
  AreTypes no_types = Unit {0}
  AreTypes (type t ts) = IsType t × AreTypes ts
