-- The text of a form: one compact JSON object for each node.
use Rattle.std.specs.Prelude.{ℕ, List, [], ◌∷◌, ◌++◌, map, Option, Some, None, codes, decimal}
use Rattle.awk_types.specs.DataType.{Name}
use Rattle.awk_types.specs.declared.primitive.Primitive.{Primitive}
use Rattle.awk_types.specs.declared.primitive.Primitive.TheVariants as primitive
use Rattle.awk_json.specs.Text.{quoted, list_text, truth_text}
use Rattle.awk_form.specs.FormTree.{FormTree, empty, numpy, regular, list, list_offset, row}
use Rattle.awk_form.specs.FormTree.{indexed, indexed_option, byte_masked, bit_masked, unmasked}
use Rattle.awk_form.specs.FormTree.{union, FormTrees, no_forms, form}
use Rattle.awk_form.specs.declared.kind.IndexKind.{IndexKind}
use Rattle.awk_form.specs.declared.kind.IndexKind.TheVariants as index

abbrev pub Text : Type 0
Text = List ℕ

abbrev pub kind_text : IndexKind → Text
kind_text index.I32 = codes "i32"
kind_text index.U32 = codes "u32"
kind_text index.I64 = codes "i64"

abbrev pub primitive_text : Primitive → Text
primitive_text primitive.Bool = codes "bool"
primitive_text primitive.I8 = codes "int8"
primitive_text primitive.I16 = codes "int16"
primitive_text primitive.I32 = codes "int32"
primitive_text primitive.I64 = codes "int64"
primitive_text primitive.U8 = codes "uint8"
primitive_text primitive.U16 = codes "uint16"
primitive_text primitive.U32 = codes "uint32"
primitive_text primitive.U64 = codes "uint64"

abbrev pub fields_text : Option (List Name) → Text
fields_text None = codes "null"
fields_text (Some names) = list_text (map quoted names)

abbrev pub key_text : Option Name → Text
key_text None = codes "null"
key_text (Some key) = quoted key

-- a member behind another
abbrev pub member : Text → Text → Text
member name value = codes ",\"" ++ (name ++ (codes "\":" ++ value))

-- a text that holds nothing to escape
abbrev pub word : Text → Text
word text = codes "\"" ++ (text ++ codes "\"")

-- ---- a node, part by part

abbrev pub key_of : FormTree → Option Name
key_of (empty key) = key
key_of (numpy key prim inner) = key
key_of (regular key size f) = key
key_of (list key starts stops f) = key
key_of (list_offset key offsets f) = key
key_of (row key names fs) = key
key_of (indexed key index f) = key
key_of (indexed_option key index f) = key
key_of (byte_masked key valid_when f) = key
key_of (bit_masked key valid_when lsb_order f) = key
key_of (unmasked key f) = key
key_of (union key index fs) = key

abbrev pub class_text : FormTree → Text
class_text (empty key) = codes "EmptyArray"
class_text (numpy key prim inner) = codes "NumpyArray"
class_text (regular key size f) = codes "RegularArray"
class_text (list key starts stops f) = codes "ListArray"
class_text (list_offset key offsets f) = codes "ListOffsetArray"
class_text (row key names fs) = codes "RecordArray"
class_text (indexed key index f) = codes "IndexedArray"
class_text (indexed_option key index f) = codes "IndexedOptionArray"
class_text (byte_masked key valid_when f) = codes "ByteMaskedArray"
class_text (bit_masked key valid_when lsb_order f) = codes "BitMaskedArray"
class_text (unmasked key f) = codes "UnmaskedArray"
class_text (union key index fs) = codes "UnionArray"

-- the keys of the class before its contents, in order
abbrev pub members_text : FormTree → Text
members_text (empty key) = []
members_text (numpy key prim inner) =
    member (codes "primitive") (word (primitive_text prim))
    ++ member (codes "inner_shape") (list_text (map decimal inner))
members_text (regular key size f) = member (codes "size") (decimal size)
members_text (list key starts stops f) =
    member (codes "starts") (word (kind_text starts))
    ++ member (codes "stops") (word (kind_text stops))
members_text (list_offset key offsets f) = member (codes "offsets") (word (kind_text offsets))
members_text (row key names fs) = member (codes "fields") (fields_text names)
members_text (indexed key index f) = member (codes "index") (word (kind_text index))
members_text (indexed_option key index f) = member (codes "index") (word (kind_text index))
members_text (byte_masked key valid_when f) =
    member (codes "mask") (word (codes "i8")) ++ member (codes "valid_when") (truth_text valid_when)
members_text (bit_masked key valid_when lsb_order f) =
    member (codes "mask") (word (codes "u8"))
    ++ (member (codes "valid_when") (truth_text valid_when)
    ++ member (codes "lsb_order") (truth_text lsb_order))
members_text (unmasked key f) = []
members_text (union key index fs) =
    member (codes "tags") (word (codes "i8")) ++ member (codes "index") (word (kind_text index))

abbrev pub class_member : Text → Text
class_member class = codes "{\"class\":\"" ++ (class ++ codes "\"")

-- no parameter is written
abbrev pub end_text : Option Name → Text
end_text key =
    member (codes "parameters") (codes "{}")
    ++ (member (codes "form_key") (key_text key) ++ codes "}")

-- a node whose contents have this text
abbrev pub node_text : FormTree → Text → Text
node_text f contents =
    class_member (class_text f) ++ (members_text f ++ (contents ++ end_text (key_of f)))

-- ---- the contents, and the whole

abbrev mutual
  pub contents_text : FormTree → Text
  contents_text (empty key) = []
  contents_text (numpy key prim inner) = []
  contents_text (regular key size f) = member (codes "content") (node_text f (contents_text f))
  contents_text (list key starts stops f) = member (codes "content") (node_text f (contents_text f))
  contents_text (list_offset key offsets f) =
      member (codes "content") (node_text f (contents_text f))
  contents_text (row key names fs) = member (codes "contents") (list_text (form_texts fs))
  contents_text (indexed key index f) = member (codes "content") (node_text f (contents_text f))
  contents_text (indexed_option key index f) =
      member (codes "content") (node_text f (contents_text f))
  contents_text (byte_masked key valid_when f) =
      member (codes "content") (node_text f (contents_text f))
  contents_text (bit_masked key valid_when lsb_order f) =
      member (codes "content") (node_text f (contents_text f))
  contents_text (unmasked key f) = member (codes "content") (node_text f (contents_text f))
  contents_text (union key index fs) = member (codes "contents") (list_text (form_texts fs))

  pub form_texts : FormTrees → List Text
  form_texts no_forms = []
  form_texts (form f fs) = node_text f (contents_text f) ∷ form_texts fs

abbrev pub form_text : FormTree → Text
form_text f = node_text f (contents_text f)
