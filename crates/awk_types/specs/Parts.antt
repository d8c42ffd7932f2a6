-- What types are made of, and what values are.
use Rattle.std.specs.Prelude.{ℕ, suc, ℤ, pos, Bool, true, false, if◌then◌else◌, List, []}
use Rattle.std.specs.Prelude.{Option, Some, None}
use Rattle.awk_types.specs.DataType.{Name, DataType, unknown, var, reg, rec, tup, opt, type_list}
use Rattle.awk_types.specs.Predicates.{is_null}
use Rattle.awk_types.specs.Value.{Value, int, truth, null, list, row, alt}

-- ---- lists

-- what lists are of; another type stays
abbrev pub item_of : DataType → DataType
item_of (var t) = t
item_of (reg n t) = t
item_of t = t

-- what lists are of; unknown counts as lists of unknown
abbrev pub list_item : DataType → Option DataType
list_item unknown = Some unknown
list_item (var t) = Some t
list_item (reg n t) = Some t
list_item t = None

-- how many lists lie above what is none, options dropped
abbrev pub list_depth : DataType → ℕ
list_depth (var t) = suc (list_depth t)
list_depth (reg n t) = suc (list_depth t)
list_depth (opt t) = list_depth t
list_depth t = 0

-- lists of any length, or of one
abbrev pub IsListType : DataType → Type 0
IsListType (var t) = Unit {0}
IsListType (reg n t) = Unit {0}
IsListType t = ⊥

-- ---- rows

abbrev pub is_record : DataType → Bool
is_record (rec ns ts) = true
is_record t = false

abbrev pub names_of_fields : DataType → List Name
names_of_fields (rec ns ts) = ns
names_of_fields t = []

abbrev pub types_of_fields : DataType → List DataType
types_of_fields (rec ns ts) = type_list ts
types_of_fields t = []

-- a tuple or a record
abbrev pub IsRowType : DataType → Type 0
IsRowType (rec ns ts) = Unit {0}
IsRowType (tup ts) = Unit {0}
IsRowType t = ⊥

-- ---- values

-- a list, and no null
abbrev pub IsList : Value → Type 0
IsList (list vs) = Unit {0}
IsList v = ⊥

-- neither null nor a value of an alternative
abbrev pub IsSingle : Value → Type 0
IsSingle (int z) = Unit {0}
IsSingle (truth b) = Unit {0}
IsSingle (list vs) = Unit {0}
IsSingle (row vs) = Unit {0}
IsSingle null = ⊥
IsSingle (alt k v) = ⊥

-- the value is of an alternative
abbrev pub IsAlternative : Value → Type 0
IsAlternative (alt k v) = Unit {0}
IsAlternative v = ⊥

-- a whole number, or a truth value as 0 or 1
abbrev pub number_of : Value → ℤ
number_of (int z) = z
number_of (truth b) = pos (if b then 1 else 0)
number_of v = pos 0

-- the same, or none of null
abbrev pub option_number : Value → Option ℤ
option_number v = if is_null v then None else Some (number_of v)
