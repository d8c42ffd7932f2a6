-- The texts of types, and of data by their types.
use Rattle.std.specs.Prelude.{ℕ, Bool, true, false, not, ◌==◌, ◌&&◌, ◌||◌, List, [], ◌∷◌, ◌++◌}
use Rattle.std.specs.Prelude.{if◌then◌else◌, codes, decimal, length}
use Rattle.std.specs.Char.{is_ascii_digit, is_ascii_alphanumeric}
use Rattle.std.specs.List.{list_all}
use Rattle.awk_types.specs.DataType.{Name, DataType, unknown, leaf, var, reg, rec, tup, opt, uni}
use Rattle.awk_types.specs.DataType.{DataTypes, no_types, type}
use Rattle.awk_types.specs.Datum.{Datum, arr, one}
use Rattle.awk_types.specs.View.{NamedType}
use Rattle.awk_types.specs.Predicates.{is_list}
use Rattle.awk_json.specs.Text.{quoted, joined}
use Rattle.awk_form.specs.FormText.{primitive_text, Text}

-- a letter, a digit or `_`
abbrev pub is_word : ℕ → Bool
is_word b = is_ascii_alphanumeric b || b == 95

-- whether a name stands as it is: of letters, digits and `_`, beginning with no digit
abbrev pub is_bare : Name → Bool
is_bare [] = false
is_bare (b ∷ bytes) = not (is_ascii_digit b) && list_all is_word (b ∷ bytes)

abbrev pub name_text : Name → Text
name_text n = if is_bare n then n else quoted n

-- what stands around the type of an option's values: brackets where they are lists
abbrev pub option_opening : DataType → Text
option_opening t = if is_list t then codes "option[" else codes "?"

abbrev pub option_close : DataType → Text
option_close t = if is_list t then codes "]" else []

-- texts between two brackets
abbrev pub enclosed : Text → List Text → Text → Text
enclosed opening texts close = opening ++ (joined (codes ", ") texts ++ close)

-- a field: its name, and the text of its type
abbrev pub field_type_text : Name → Text → Text
field_type_text n text = name_text n ++ (codes ": " ++ text)

abbrev pub field_type_texts : List Name → List Text → List Text
field_type_texts [] texts = []
field_type_texts (n ∷ ns) [] = []
field_type_texts (n ∷ ns) (text ∷ texts) = field_type_text n text ∷ field_type_texts ns texts

-- the length of a list, before the type of its items
abbrev pub size_text : ℕ → Text
size_text n = decimal n ++ codes " * "

abbrev mutual
  pub type_text : DataType → Text
  type_text unknown = codes "unknown"
  type_text (leaf p) = primitive_text p
  type_text (var t) = codes "var * " ++ type_text t
  type_text (reg n t) = size_text n ++ type_text t
  type_text (rec ns ts) = enclosed (codes "{") (field_type_texts ns (type_texts ts)) (codes "}")
  type_text (tup ts) = enclosed (codes "(") (type_texts ts) (codes ")")
  type_text (opt t) = option_opening t ++ (type_text t ++ option_close t)
  type_text (uni ts) = enclosed (codes "union[") (type_texts ts) (codes "]")

  pub type_texts : DataTypes → List Text
  type_texts no_types = []
  type_texts (type t ts) = type_text t ∷ type_texts ts

-- a field of a record
abbrev pub named_type_text : NamedType → Text
named_type_text f = field_type_text f.name (type_text f.typ)

-- an array's type has its length, that of a single value stands alone
abbrev pub datum_type_text : Datum → Text
datum_type_text (arr t vs) = size_text (length vs) ++ type_text t
datum_type_text (one t v) = type_text t
