-- Simplifying of types, and of the values that are carried with them: an option of an option is one
-- option, a union in a union is spliced in its place, and an option in a union is moved outside.
use Rattle.std.specs.Prelude.{◌≡◌, ℕ, zero, suc, ◌+◌, Bool, true, false, List, [], ◌∷◌, length, map}
use Rattle.std.specs.List.{list_any, flat_map}
use Rattle.awk_types.specs.DataType.{DataType, unknown, leaf, var, reg, rec, tup, opt, uni}
use Rattle.awk_types.specs.DataType.{DataTypes, no_types, type, type_list, types_from}
use Rattle.awk_types.specs.Value.{Value, null, list, row, alt, value_list, values_from}

abbrev pub is_option : DataType → Bool
is_option (opt t) = true
is_option t = false

abbrev pub is_union : DataType → Bool
is_union (uni ts) = true
is_union t = false

-- the type without its option
abbrev pub present : DataType → DataType
present (opt t) = t
present t = t

abbrev pub option_if : Bool → DataType → DataType
option_if true t = opt t
option_if false t = t

-- the alternatives of a type, where one that is no union is its own only alternative
abbrev pub alternatives : DataType → List DataType
alternatives (uni ts) = type_list ts
alternatives t = t ∷ []

-- what a simple type gives to a union: it loses its option, and is spliced where it is a union
abbrev pub present_alternatives : DataType → List DataType
present_alternatives t = alternatives (present t)

-- the option of a simple type
abbrev pub option_of : DataType → DataType
option_of t = opt (present t)

-- the union of simple types: where one was optional, the whole is optional
abbrev pub union_of : List DataType → DataType
union_of ts =
    option_if (list_any is_option ts) (uni (types_from (flat_map present_alternatives ts)))

abbrev mutual
  pub simple : DataType → DataType
  simple unknown = unknown
  simple (leaf p) = leaf p
  simple (var t) = var (simple t)
  simple (reg n t) = reg n (simple t)
  simple (rec ns ts) = rec ns (types_from (simples ts))
  simple (tup ts) = tup (types_from (simples ts))
  simple (opt t) = option_of (simple t)
  simple (uni ts) = union_of (simples ts)

  pub simples : DataTypes → List DataType
  simples no_types = []
  simples (type t ts) = simple t ∷ simples ts

-- no option directly in an option, and no option or union directly in a union
abbrev mutual
  pub IsSimple : DataType → Type 0
  IsSimple unknown = Unit {0}
  IsSimple (leaf p) = Unit {0}
  IsSimple (var t) = IsSimple t
  IsSimple (reg n t) = IsSimple t
  IsSimple (rec ns ts) = AreSimple ts
  IsSimple (tup ts) = AreSimple ts
  IsSimple (opt t) = (is_option t ≡ false) × IsSimple t
  IsSimple (uni ts) = ArePlain ts

  pub AreSimple : DataTypes → Type 0
  AreSimple no_types = Unit {0}
  AreSimple (type t ts) = IsSimple t × AreSimple ts

  pub ArePlain : DataTypes → Type 0
  ArePlain no_types = Unit {0}
  ArePlain (type t ts) = (is_option t ≡ false) × (is_union t ≡ false) × IsSimple t × ArePlain ts

-- ---- values, by what is done to their parts

-- the items of a list
abbrev pub in_list : (Value → Value) → Value → Value
in_list f (list vs) = list (values_from (map f (value_list vs)))
in_list f v = v

-- each part by the function of its place
abbrev pub values_by : List (Value → Value) → List Value → List Value
values_by [] vs = []
values_by (f ∷ fs) [] = []
values_by (f ∷ fs) (v ∷ vs) = f v ∷ values_by fs vs

-- the parts of a row
abbrev pub in_row : List (Value → Value) → Value → Value
in_row fs (row vs) = row (values_from (values_by fs (value_list vs)))
in_row fs v = v

-- a value that is not null
abbrev pub in_option : (Value → Value) → Value → Value
in_option f null = null
in_option f v = f v

-- a value by the function at place k
abbrev pub value_by : List (Value → Value) → ℕ → Value → Value
value_by [] k v = null
value_by (f ∷ fs) zero v = f v
value_by (f ∷ fs) (suc k) v = value_by fs k v

-- the value of an alternative, by the function of its tag
abbrev pub in_alternative : List (Value → Value) → Value → Value
in_alternative fs (alt k v) = alt k (value_by fs k v)
in_alternative fs v = v

-- the number of alternatives that the first k types give
abbrev pub alternatives_before : List DataType → ℕ → ℕ
alternatives_before [] k = 0
alternatives_before (t ∷ ts) zero = 0
alternatives_before (t ∷ ts) (suc k) = length (present_alternatives t) + alternatives_before ts k

-- a simple value as one of a union in which b alternatives stand before what its type gives
abbrev pub value_after : ℕ → Value → Value
value_after b null = null
value_after b (alt j v) = alt (b + j) v
value_after b v = alt b v

-- the value part of `union_of`
abbrev pub union_value : List DataType → Value → Value
union_value ts (alt k v) = value_after (alternatives_before ts k) v
union_value ts v = v

abbrev mutual
  pub simple_value : DataType → Value → Value
  simple_value unknown v = v
  simple_value (leaf p) v = v
  simple_value (var t) v = in_list (simple_value t) v
  simple_value (reg n t) v = in_list (simple_value t) v
  simple_value (rec ns ts) v = in_row (simple_values ts) v
  simple_value (tup ts) v = in_row (simple_values ts) v
  simple_value (opt t) v = in_option (simple_value t) v
  simple_value (uni ts) v = union_value (simples ts) (in_alternative (simple_values ts) v)

  pub simple_values : DataTypes → List (Value → Value)
  simple_values no_types = []
  simple_values (type t ts) = simple_value t ∷ simple_values ts
