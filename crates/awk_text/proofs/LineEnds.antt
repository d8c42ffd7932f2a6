-- No text of a value, of a type or of a fault holds a byte that ends a line.
use Rattle.std.proofs.Common.{◌≡◌, ℕ, zero, suc, Bool, true, false, cond, List, [], ◌∷◌, ◌++◌, map}
use Rattle.std.proofs.Common.{refl, ap, sym, ◌∙◌, not, true≢false, codes, decimal}
use Rattle.std.specs.Char.{is_ascii_digit}
use Rattle.std.specs.List.{AllByRecursion, list_all}
use Rattle.std.proofs.lemmas.Bool.{and_parts}
use Rattle.awk_types.specs.DataType.{Name, DataType, unknown, leaf, var, reg, rec, tup, opt, uni}
use Rattle.awk_types.specs.DataType.{DataTypes, no_types, type}
use Rattle.awk_types.specs.Value.{Value, int, truth, null, list, row, alt}
use Rattle.awk_types.specs.declared.fault.Fault.{Fault}
use Rattle.awk_types.specs.declared.fault.Fault.TheVariants as fault
use Rattle.awk_types.specs.declared.primitive.Primitive.{Primitive}
use Rattle.awk_types.specs.declared.primitive.Primitive.TheVariants as primitive
use Rattle.awk_edge.specs.Lines.{Unbroken}
use Rattle.awk_edge.proofs.LineLaws.{Unbroken-append, Unbroken-cond}
use Rattle.awk_json.specs.Text.{quoted, joined, comma_joined, list_text}
use Rattle.awk_json.proofs.Lines.{literal-unbroken, quoted-unbroken, joined-unbroken}
use Rattle.awk_json.proofs.Lines.{comma_joined-unbroken, list_text-unbroken, decimal-unbroken}
use Rattle.awk_json.proofs.Lines.{signed_decimal-unbroken, truth_text-unbroken}
use Rattle.awk_form.specs.FormText.{primitive_text}
use Rattle.awk_columns.specs.Columns.{list_items, row_parts, tag_of}
use Rattle.awk_text.specs.ValueText.{leaf_text, untagged}
use Rattle.awk_text.specs.ValueText.{place_names, members, value_text, row_texts, alternative_text}
use Rattle.awk_text.specs.TypeText.{is_word, is_bare, name_text, option_opening}
use Rattle.awk_text.specs.TypeText.{option_close, enclosed, field_type_texts, size_text, type_text}
use Rattle.awk_text.specs.TypeText.{type_texts}
use Rattle.awk_types.specs.Predicates.{is_list, is_null}
use Rattle.awk_text.specs.FaultText.{fault_text}

-- three texts, one after another
pub between : (head text tail : List ℕ) → Unbroken head → Unbroken text → Unbroken tail
    → Unbroken (head ++ text ++ tail)
between head text tail h t l = Unbroken-append (head ++ text) tail (Unbroken-append head text h t) l

-- ---- values

leaf_text-unbroken : (v : Value) → Unbroken (leaf_text v)
leaf_text-unbroken (int z) = signed_decimal-unbroken z
leaf_text-unbroken (truth b) = truth_text-unbroken b
leaf_text-unbroken null = literal-unbroken (codes "null") refl
leaf_text-unbroken (list vs) = literal-unbroken (codes "null") refl
leaf_text-unbroken (row vs) = literal-unbroken (codes "null") refl
leaf_text-unbroken (alt k v) = literal-unbroken (codes "null") refl

map-unbroken : (f : Value → List ℕ) → ((v : Value) → Unbroken (f v)) → (vs : List Value)
    → AllByRecursion Unbroken (map f vs)
map-unbroken f h [] = tt
map-unbroken f h (v ∷ vs) = (h v, map-unbroken f h vs)

members-unbroken : (ns : List Name) (ts : List (List ℕ)) → AllByRecursion Unbroken ts
    → AllByRecursion Unbroken (members ns ts)
members-unbroken [] ts h = tt
members-unbroken (n ∷ ns) [] h = tt
members-unbroken (n ∷ ns) (t ∷ ts) h = (
  between (quoted n) (codes ":") t (quoted-unbroken n) (literal-unbroken (codes ":") refl) h.0,
  members-unbroken ns ts h.1,
)

-- the members of an object, joined
object-unbroken : (ns : List Name) (ts : List (List ℕ)) → AllByRecursion Unbroken ts
    → Unbroken (codes "{" ++ comma_joined (members ns ts) ++ codes "}")
object-unbroken ns ts h =
    between (codes "{") (comma_joined (members ns ts)) (codes "}")
    (literal-unbroken (codes "{") refl)
    (comma_joined-unbroken (members ns ts) (members-unbroken ns ts h))
    (literal-unbroken (codes "}") refl)

mutual
  pub value_text-unbroken : (t : DataType) (v : Value) → Unbroken (value_text t v)
  value_text-unbroken unknown v = leaf_text-unbroken v
  value_text-unbroken (leaf p) v = leaf_text-unbroken v
  value_text-unbroken (var t) v = list_text-unbroken (map (value_text t) (list_items v))
      (map-unbroken (value_text t) (value_text-unbroken t) (list_items v))
  value_text-unbroken (reg n t) v = list_text-unbroken (map (value_text t) (list_items v))
      (map-unbroken (value_text t) (value_text-unbroken t) (list_items v))
  value_text-unbroken (rec ns ts) v =
      object-unbroken ns (row_texts ts (row_parts v)) (row_texts-unbroken ts (row_parts v))
  value_text-unbroken (tup ts) v = object-unbroken (place_names 0 ts) (row_texts ts (row_parts v))
      (row_texts-unbroken ts (row_parts v))
  value_text-unbroken (opt t) v = Unbroken-cond (is_null v) (codes "null") (value_text t v)
      (literal-unbroken (codes "null") refl) (value_text-unbroken t v)
  value_text-unbroken (uni ts) v = alternative_text-unbroken ts (tag_of v) (untagged v)

  row_texts-unbroken : (ts : DataTypes) (vs : List Value)
      → AllByRecursion Unbroken (row_texts ts vs)
  row_texts-unbroken no_types vs = tt
  row_texts-unbroken (type t ts) [] = tt
  row_texts-unbroken (type t ts) (v ∷ vs) = (value_text-unbroken t v, row_texts-unbroken ts vs)

  alternative_text-unbroken : (ts : DataTypes) (k : ℕ) (v : Value)
      → Unbroken (alternative_text ts k v)
  alternative_text-unbroken no_types k v = tt
  alternative_text-unbroken (type t ts) zero v = value_text-unbroken t v
  alternative_text-unbroken (type t ts) (suc k) v = alternative_text-unbroken ts k v

-- the list of values of a type
pub values_text-unbroken : (t : DataType) (vs : List Value)
    → Unbroken (list_text (map (value_text t) vs))
values_text-unbroken t vs = list_text-unbroken (map (value_text t) vs)
    (map-unbroken (value_text t) (value_text-unbroken t) vs)

-- ---- types

primitive_text-unbroken : (p : Primitive) → Unbroken (primitive_text p)
primitive_text-unbroken primitive.Bool = literal-unbroken (codes "bool") refl
primitive_text-unbroken primitive.I8 = literal-unbroken (codes "int8") refl
primitive_text-unbroken primitive.I16 = literal-unbroken (codes "int16") refl
primitive_text-unbroken primitive.I32 = literal-unbroken (codes "int32") refl
primitive_text-unbroken primitive.I64 = literal-unbroken (codes "int64") refl
primitive_text-unbroken primitive.U8 = literal-unbroken (codes "uint8") refl
primitive_text-unbroken primitive.U16 = literal-unbroken (codes "uint16") refl
primitive_text-unbroken primitive.U32 = literal-unbroken (codes "uint32") refl
primitive_text-unbroken primitive.U64 = literal-unbroken (codes "uint64") refl

-- no letter, digit or `_` ends a line
words-unbroken : (bytes : List ℕ) → list_all is_word bytes ≡ true → Unbroken bytes
words-unbroken [] h = tt
words-unbroken (b ∷ bytes) h =
    let first : (is_word b ≡ true) × (list_all is_word bytes ≡ true) =
    and_parts (is_word b) (list_all is_word bytes) h in
    ((λ e. true≢false (sym first.0 ∙ ap is_word e)), words-unbroken bytes first.1)

bare-unbroken : (n : Name) → is_bare n ≡ true → Unbroken n
bare-unbroken [] h = tt
bare-unbroken (b ∷ bytes) h = let rest = and_parts (not (is_ascii_digit b))
    (list_all is_word (b ∷ bytes)) h in words-unbroken (b ∷ bytes) rest.1

name_by-unbroken : (n : Name) (bare : Bool) → is_bare n ≡ bare → Unbroken (cond bare n (quoted n))
name_by-unbroken n true h = bare-unbroken n h
name_by-unbroken n false h = quoted-unbroken n

name_text-unbroken : (n : Name) → Unbroken (name_text n)
name_text-unbroken n = name_by-unbroken n (is_bare n) refl

enclosed-unbroken : (opening : List ℕ) (texts : List (List ℕ)) (close : List ℕ) → Unbroken opening
    → AllByRecursion Unbroken texts → Unbroken close → Unbroken (enclosed opening texts close)
enclosed-unbroken opening texts close o h c =
    Unbroken-append opening (joined (codes ", ") texts ++ close) o
    (Unbroken-append (joined (codes ", ") texts) close
    (joined-unbroken (codes ", ") texts (literal-unbroken (codes ", ") refl) h) c)

fields-unbroken : (ns : List Name) (texts : List (List ℕ)) → AllByRecursion Unbroken texts
    → AllByRecursion Unbroken (field_type_texts ns texts)
fields-unbroken [] texts h = tt
fields-unbroken (n ∷ ns) [] h = tt
fields-unbroken (n ∷ ns) (text ∷ texts) h = (
  Unbroken-append (name_text n) (codes ": " ++ text) (name_text-unbroken n)
      (Unbroken-append (codes ": ") text (literal-unbroken (codes ": ") refl) h.0),
  fields-unbroken ns texts h.1,
)

option-unbroken : (t : DataType) (text : List ℕ) → Unbroken text
    → Unbroken (option_opening t ++ (text ++ option_close t))
option-unbroken t text u =
    Unbroken-append (option_opening t) (text ++ option_close t)
    (Unbroken-cond (is_list t) (codes "option[") (codes "?")
    (literal-unbroken (codes "option[") refl) (literal-unbroken (codes "?") refl))
    (Unbroken-append text (option_close t) u
    (Unbroken-cond (is_list t) (codes "]") [] (literal-unbroken (codes "]") refl) tt))

size_text-unbroken : (n : ℕ) → Unbroken (size_text n)
size_text-unbroken n = Unbroken-append (decimal n) (codes " * ") (decimal-unbroken n)
    (literal-unbroken (codes " * ") refl)

mutual
  pub type_text-unbroken : (t : DataType) → Unbroken (type_text t)
  type_text-unbroken unknown = literal-unbroken (codes "unknown") refl
  type_text-unbroken (leaf p) = primitive_text-unbroken p
  type_text-unbroken (var t) = Unbroken-append (codes "var * ") (type_text t)
      (literal-unbroken (codes "var * ") refl) (type_text-unbroken t)
  type_text-unbroken (reg n t) =
      Unbroken-append (size_text n) (type_text t) (size_text-unbroken n) (type_text-unbroken t)
  type_text-unbroken (rec ns ts) =
      enclosed-unbroken (codes "{") (field_type_texts ns (type_texts ts)) (codes "}")
      (literal-unbroken (codes "{") refl)
      (fields-unbroken ns (type_texts ts) (type_texts-unbroken ts))
      (literal-unbroken (codes "}") refl)
  type_text-unbroken (tup ts) =
      enclosed-unbroken (codes "(") (type_texts ts) (codes ")") (literal-unbroken (codes "(") refl)
      (type_texts-unbroken ts) (literal-unbroken (codes ")") refl)
  type_text-unbroken (opt t) = option-unbroken t (type_text t) (type_text-unbroken t)
  type_text-unbroken (uni ts) =
      enclosed-unbroken (codes "union[") (type_texts ts) (codes "]")
      (literal-unbroken (codes "union[") refl) (type_texts-unbroken ts)
      (literal-unbroken (codes "]") refl)

  type_texts-unbroken : (ts : DataTypes) → AllByRecursion Unbroken (type_texts ts)
  type_texts-unbroken no_types = tt
  type_texts-unbroken (type t ts) = (type_text-unbroken t, type_texts-unbroken ts)

-- ---- faults

-- a name behind a head that is written out, and a brace
named-unbroken : (head : List ℕ) (n : Name) → Unbroken head
    → Unbroken (head ++ quoted n ++ codes "}")
named-unbroken head n h =
    between head (quoted n) (codes "}") h (quoted-unbroken n) (literal-unbroken (codes "}") refl)

pub fault_text-unbroken : (f : Fault) → Unbroken (fault_text f)
fault_text-unbroken (fault.Unbound n) = named-unbroken (codes "{\"fault\":\"name\",\"name\":") n
    (literal-unbroken (codes "{\"fault\":\"name\",\"name\":") refl)
fault_text-unbroken (fault.NoField n) = named-unbroken (codes "{\"fault\":\"field\",\"field\":") n
    (literal-unbroken (codes "{\"fault\":\"field\",\"field\":") refl)
fault_text-unbroken fault.Axis = literal-unbroken (codes "{\"fault\":\"axis\"}") refl
fault_text-unbroken fault.WrongType = literal-unbroken (codes "{\"fault\":\"type\"}") refl
fault_text-unbroken fault.Overflow = literal-unbroken (codes "{\"fault\":\"overflow\"}") refl
fault_text-unbroken fault.Zero = literal-unbroken (codes "{\"fault\":\"zero\"}") refl
fault_text-unbroken fault.Depth = literal-unbroken (codes "{\"fault\":\"depth\"}") refl
fault_text-unbroken fault.Size = literal-unbroken (codes "{\"fault\":\"size\"}") refl
fault_text-unbroken fault.Lengths = literal-unbroken (codes "{\"fault\":\"lengths\"}") refl
fault_text-unbroken fault.Index = literal-unbroken (codes "{\"fault\":\"index\"}") refl
fault_text-unbroken fault.NoMemory = tt
