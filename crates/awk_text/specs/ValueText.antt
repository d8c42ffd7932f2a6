-- The texts of values.
use Rattle.std.specs.Prelude.{ℕ, zero, suc, List, [], ◌∷◌, ◌++◌, map, if◌then◌else◌, codes, decimal}
use Rattle.std.specs.Fmt.{signed_decimal}
use Rattle.awk_types.specs.DataType.{Name, DataType, unknown, leaf, var, reg, rec, tup, opt, uni}
use Rattle.awk_types.specs.DataType.{DataTypes, no_types, type}
use Rattle.awk_types.specs.Predicates.{is_null}
use Rattle.awk_types.specs.Value.{Value, int, truth, null, alt}
use Rattle.awk_json.specs.Text.{quoted, comma_joined, list_text, truth_text}
use Rattle.awk_form.specs.FormText.{Text}
use Rattle.awk_columns.specs.Columns.{list_items, row_parts, tag_of}

-- a number or a truth value, and any other value as missing
abbrev pub leaf_text : Value → Text
leaf_text (int z) = signed_decimal z
leaf_text (truth b) = truth_text b
leaf_text v = codes "null"

abbrev pub untagged : Value → Value
untagged (alt k v) = v
untagged v = v

-- the names of a tuple's places, from a number on
abbrev pub place_names : ℕ → DataTypes → List Name
place_names i no_types = []
place_names i (type t ts) = decimal i ∷ place_names (suc i) ts

-- each text behind its name
abbrev pub members : List Name → List Text → List Text
members [] ts = []
members (n ∷ ns) [] = []
members (n ∷ ns) (t ∷ ts) = (quoted n ++ codes ":" ++ t) ∷ members ns ts

-- lists in brackets, rows as objects with the fields in order, an alternative without its tag
abbrev mutual
  pub value_text : DataType → Value → Text
  value_text unknown v = leaf_text v
  value_text (leaf p) v = leaf_text v
  value_text (var t) v = list_text (map (value_text t) (list_items v))
  value_text (reg n t) v = list_text (map (value_text t) (list_items v))
  value_text (rec ns ts) v =
      codes "{" ++ comma_joined (members ns (row_texts ts (row_parts v))) ++ codes "}"
  value_text (tup ts) v =
      codes "{" ++ comma_joined (members (place_names 0 ts) (row_texts ts (row_parts v)))
      ++ codes "}"
  value_text (opt t) v = if is_null v then codes "null" else value_text t v
  value_text (uni ts) v = alternative_text ts (tag_of v) (untagged v)

  pub row_texts : DataTypes → List Value → List Text
  row_texts no_types vs = []
  row_texts (type t ts) [] = []
  row_texts (type t ts) (v ∷ vs) = value_text t v ∷ row_texts ts vs

  pub alternative_text : DataTypes → ℕ → Value → Text
  alternative_text no_types k v = []
  alternative_text (type t ts) zero v = value_text t v
  alternative_text (type t ts) (suc k) v = alternative_text ts k v
