-- Which values are of a type. No value is of type unknown.
use Rattle.std.specs.Prelude.{◌≡◌, ℕ, zero, suc, List, [], ◌∷◌, length, ℤ, pos, negsuc, ◌≤ℤ◌}
use Rattle.std.specs.List.{AllByRecursion}
use Rattle.awk_types.specs.DataType.{DataType, leaf, var, reg, rec, tup, opt, uni, DataTypes}
use Rattle.awk_types.specs.DataType.{no_types, type}
use Rattle.awk_types.specs.Value.{Value, int, truth, null, list, row, alt, value_list}
use Rattle.awk_types.specs.declared.primitive.Primitive.{Primitive}
use Rattle.awk_types.specs.declared.primitive.Primitive.TheVariants.{Bool, I8, I16, I32, I64, U8}
use Rattle.awk_types.specs.declared.primitive.Primitive.TheVariants.{U16, U32, U64}

-- the least and the greatest number of a primitive; truth values are no numbers, and no number lies
-- in their range
abbrev pub least_number : Primitive → ℤ
least_number Bool = pos 0
least_number I8 = negsuc 127
least_number I16 = negsuc 32767
least_number I32 = negsuc 2147483647
least_number I64 = negsuc 9223372036854775807
least_number U8 = pos 0
least_number U16 = pos 0
least_number U32 = pos 0
least_number U64 = pos 0

abbrev pub greatest_number : Primitive → ℤ
greatest_number Bool = negsuc 0
greatest_number I8 = pos 127
greatest_number I16 = pos 32767
greatest_number I32 = pos 2147483647
greatest_number I64 = pos 9223372036854775807
greatest_number U8 = pos 255
greatest_number U16 = pos 65535
greatest_number U32 = pos 4294967295
greatest_number U64 = pos 18446744073709551615

-- the primitive holds the number
abbrev pub Holds : Primitive → ℤ → Type 0
Holds p z = (least_number p ≤ℤ z) × (z ≤ℤ greatest_number p)

abbrev mutual
  pub Has : DataType → Value → Type 0
  Has (leaf p) (int z) = Holds p z
  Has (leaf Bool) (truth b) = Unit {0}
  Has (var t) (list vs) = AllByRecursion (Has t) (value_list vs)
  Has (reg n t) (list vs) = (length (value_list vs) ≡ n) × AllByRecursion (Has t) (value_list vs)
  Has (rec ns ts) (row vs) = HasRow ts (value_list vs)
  Has (tup ts) (row vs) = HasRow ts (value_list vs)
  Has (opt t) null = Unit {0}
  Has (opt t) v = Has t v
  Has (uni ts) (alt k v) = HasAlternative ts k v
  Has t v = ⊥

  -- one value for each field
  pub HasRow : DataTypes → List Value → Type 0
  HasRow no_types [] = Unit {0}
  HasRow (type t ts) (v ∷ vs) = Has t v × HasRow ts vs
  HasRow ts vs = ⊥

  -- the alternative at place k has the value
  pub HasAlternative : DataTypes → ℕ → Value → Type 0
  HasAlternative no_types k v = ⊥
  HasAlternative (type t ts) zero v = Has t v
  HasAlternative (type t ts) (suc k) v = HasAlternative ts k v
