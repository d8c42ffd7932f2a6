-- Choices of fields: what is looked for through lists, options and every alternative of a union,
-- and what stays of each
-- record that is found.
use Rattle.std.specs.Prelude.{ℕ, Bool, true, false, ◌&&◌, List, [], ◌∷◌, length, map, get_or}
use Rattle.std.specs.Prelude.{decimal, Option, Some, None, option_map, if◌then◌else◌}
use Rattle.std.specs.List.{range_with_len}
use Rattle.awk_types.specs.DataType.{Name, DataType, unknown, leaf, var, reg, rec, tup, opt, uni}
use Rattle.awk_types.specs.DataType.{DataTypes, no_types, type, type_list, types_from, row_type}
use Rattle.awk_types.specs.Value.{Value, null, row, value_list, values_from}
use Rattle.awk_types.specs.Names.{same_name, is_among, place_of}
use Rattle.awk_types.specs.IsType.{count}
use Rattle.awk_types.specs.Simple.{in_list, in_option, in_alternative, simple, simple_value}
use Rattle.awk_types.specs.Gives.{◌or◌}

pub data Choice : Type 0 where
  -- the field of this name
  field : Name → Choice
  -- the record of these fields, in this order
  fields : List Name → Choice
  -- the record of all fields but this
  without : Name → Choice

-- ---- names and what stands beside them

-- the names of a record's fields, or of a tuple's n places: the decimals from 0 on
abbrev pub row_names : Option (List Name) → ℕ → List Name
row_names None n = map decimal (range_with_len 0 n)
row_names (Some names) n = names

-- what stands beside a name, or `other` where the name is not there
abbrev pub beside : {A : Type 0} → A → Name → List Name → List A → A
beside other n names xs = get_or xs (place_of n names) other

-- what stands beside the other names
abbrev pub apart_from : {A : Type 0} → Name → List Name → List A → List A
apart_from n [] xs = []
apart_from n (m ∷ ms) [] = []
apart_from n (m ∷ ms) (x ∷ xs) =
    if same_name m n then apart_from n ms xs else x ∷ apart_from n ms xs

-- ---- what is not found

-- every record that is met has the field, and nothing but records is met
abbrev mutual
  pub has_field : Name → DataType → Bool
  has_field n unknown = false
  has_field n (leaf p) = false
  has_field n (var t) = has_field n t
  has_field n (reg k t) = has_field n t
  has_field n (rec names ts) = is_among n names
  has_field n (tup ts) = is_among n (row_names None (count ts))
  has_field n (opt t) = has_field n t
  has_field n (uni ts) = all_have_field n ts

  pub all_have_field : Name → DataTypes → Bool
  all_have_field n no_types = true
  all_have_field n (type t ts) = has_field n t && all_have_field n ts

-- nothing but records is met
abbrev mutual
  pub has_records : DataType → Bool
  has_records unknown = false
  has_records (leaf p) = false
  has_records (var t) = has_records t
  has_records (reg k t) = has_records t
  has_records (rec names ts) = true
  has_records (tup ts) = true
  has_records (opt t) = has_records t
  has_records (uni ts) = all_have_records ts

  pub all_have_records : DataTypes → Bool
  all_have_records no_types = true
  all_have_records (type t ts) = has_records t && all_have_records ts

-- the first of the names that some record does not have
abbrev pub first_absent : List Name → DataType → Option Name
first_absent [] t = None
first_absent (n ∷ ns) t = if has_field n t then first_absent ns t else Some n

-- the name that is not found: the empty text where none is looked for and something else than a
-- record is met
abbrev pub absent : Choice → DataType → Option Name
absent (field n) t = first_absent (n ∷ []) t
absent (fields ns) t = first_absent ns t or (if has_records t then None else Some [])
absent (without n) t = first_absent (n ∷ []) t

-- ---- types

-- of a record with these names, or of a tuple
abbrev pub row_type_of : Choice → Option (List Name) → List DataType → DataType
row_type_of (field k) names ts = beside unknown k (row_names names (length ts)) ts
row_type_of (fields ks) names ts =
    row_type (option_map (λ _. ks) names)
    (types_from (map (λ k. beside unknown k (row_names names (length ts)) ts) ks))
row_type_of (without k) names ts =
    row_type (option_map (λ ns. apart_from k ns ns) names)
    (types_from (apart_from k (row_names names (length ts)) ts))

abbrev mutual
  pub type_of_choice : Choice → DataType → DataType
  type_of_choice c unknown = unknown
  type_of_choice c (leaf p) = leaf p
  type_of_choice c (var t) = var (type_of_choice c t)
  type_of_choice c (reg n t) = reg n (type_of_choice c t)
  type_of_choice c (rec names ts) = row_type_of c (Some names) (type_list ts)
  type_of_choice c (tup ts) = row_type_of c None (type_list ts)
  type_of_choice c (opt t) = opt (type_of_choice c t)
  type_of_choice c (uni ts) = uni (types_from (types_of_choice c ts))

  pub types_of_choice : Choice → DataTypes → List DataType
  types_of_choice c no_types = []
  types_of_choice c (type t ts) = type_of_choice c t ∷ types_of_choice c ts

-- the simple type of what is chosen
abbrev pub chosen_type : Choice → DataType → DataType
chosen_type c t = simple (type_of_choice c t)

-- ---- values

-- of a row whose fields have these names
abbrev pub in_row_of : Choice → List Name → Value → Value
in_row_of (field k) names (row vs) = beside null k names (value_list vs)
in_row_of (fields ks) names (row vs) =
    row (values_from (map (λ k. beside null k names (value_list vs)) ks))
in_row_of (without k) names (row vs) = row (values_from (apart_from k names (value_list vs)))
in_row_of c names v = v

abbrev mutual
  pub value_of_choice : Choice → DataType → Value → Value
  value_of_choice c unknown v = v
  value_of_choice c (leaf p) v = v
  value_of_choice c (var t) v = in_list (value_of_choice c t) v
  value_of_choice c (reg n t) v = in_list (value_of_choice c t) v
  value_of_choice c (rec names ts) v = in_row_of c names v
  value_of_choice c (tup ts) v = in_row_of c (row_names None (count ts)) v
  value_of_choice c (opt t) v = in_option (value_of_choice c t) v
  value_of_choice c (uni ts) v = in_alternative (values_of_choice c ts) v

  pub values_of_choice : Choice → DataTypes → List (Value → Value)
  values_of_choice c no_types = []
  values_of_choice c (type t ts) = value_of_choice c t ∷ values_of_choice c ts

-- the simple value of what is chosen
abbrev pub chosen_value : Choice → DataType → Value → Value
chosen_value c t v = simple_value (type_of_choice c t) (value_of_choice c t v)
