-- No text of a form or of a packed array holds a byte that ends a line.
use Rattle.std.proofs.Common.{ℕ, Bool, List, [], ◌∷◌, ◌++◌, map, length, Option, None, Some, refl}
use Rattle.std.proofs.Common.{codes, decimal}
use Rattle.std.specs.List.{AllByRecursion}
use Rattle.base64.specs.Engines.{standard}
use Rattle.base64.specs.GeneralPurpose.{encode_of}
use Rattle.awk_types.specs.DataType.{Name}
use Rattle.awk_types.specs.declared.primitive.Primitive.{Primitive}
use Rattle.awk_types.specs.declared.primitive.Primitive.TheVariants as primitive
use Rattle.awk_edge.specs.Lines.{Unbroken}
use Rattle.awk_edge.proofs.LineLaws.{Unbroken-append}
use Rattle.awk_json.specs.Text.{quoted, list_text, comma_joined, truth_text}
use Rattle.awk_json.proofs.Base64.{encode_of-unbroken}
use Rattle.awk_json.proofs.Lines.{literal-unbroken, quoted-unbroken, list_text-unbroken}
use Rattle.awk_json.proofs.Lines.{comma_joined-unbroken, decimal-unbroken, truth_text-unbroken}
use Rattle.awk_form.specs.FormText.{kind_text, primitive_text, fields_text, key_text, member, word}
use Rattle.awk_form.specs.FormText.{key_of, class_text, members_text, class_member, end_text}
use Rattle.awk_form.specs.FormText.{node_text, contents_text, form_texts, form_text}
use Rattle.awk_form.specs.FormTree.{FormTree, FormTrees, empty, numpy, regular, list, list_offset}
use Rattle.awk_form.specs.FormTree.{row, indexed, indexed_option, byte_masked, bit_masked, unmasked}
use Rattle.awk_form.specs.FormTree.{union, no_forms, form}
use Rattle.awk_form.specs.declared.kind.IndexKind.{IndexKind}
use Rattle.awk_form.specs.declared.kind.IndexKind.TheVariants as index
use Rattle.awk_pack.specs.Canon.{Pack}
use Rattle.awk_text.specs.Buffers.{buffer_text}
use Rattle.awk_text.specs.PackedText.{buffers, buffers_text, packed_text}

-- ---- forms

member-unbroken : (name value : List ℕ) → Unbroken name → Unbroken value
    → Unbroken (member name value)
member-unbroken name value n v =
    Unbroken-append (codes ",\"") (name ++ (codes "\":" ++ value))
    (literal-unbroken (codes ",\"") refl)
    (Unbroken-append name (codes "\":" ++ value) n
    (Unbroken-append (codes "\":") value (literal-unbroken (codes "\":") refl) v))

word-unbroken : (text : List ℕ) → Unbroken text → Unbroken (word text)
word-unbroken text t =
    let quote = literal-unbroken (codes "\"") refl in
    Unbroken-append (codes "\"") (text ++ codes "\"") quote
    (Unbroken-append text (codes "\"") t quote)

kind_text-unbroken : (k : IndexKind) → Unbroken (kind_text k)
kind_text-unbroken index.I32 = literal-unbroken (codes "i32") refl
kind_text-unbroken index.U32 = literal-unbroken (codes "u32") refl
kind_text-unbroken index.I64 = literal-unbroken (codes "i64") refl

primitive_text-unbroken : (p : Primitive) → Unbroken (primitive_text p)
primitive_text-unbroken primitive.Bool = literal-unbroken (codes "bool") refl
primitive_text-unbroken primitive.I8 = literal-unbroken (codes "int8") refl
primitive_text-unbroken primitive.I16 = literal-unbroken (codes "int16") refl
primitive_text-unbroken primitive.I32 = literal-unbroken (codes "int32") refl
primitive_text-unbroken primitive.I64 = literal-unbroken (codes "int64") refl
primitive_text-unbroken primitive.U8 = literal-unbroken (codes "uint8") refl
primitive_text-unbroken primitive.U16 = literal-unbroken (codes "uint16") refl
primitive_text-unbroken primitive.U32 = literal-unbroken (codes "uint32") refl
primitive_text-unbroken primitive.U64 = literal-unbroken (codes "uint64") refl

pub quoted_all-unbroken : (ns : List Name) → AllByRecursion Unbroken (map quoted ns)
quoted_all-unbroken [] = tt
quoted_all-unbroken (n ∷ ns) = (quoted-unbroken n, quoted_all-unbroken ns)

decimals-unbroken : (ns : List ℕ) → AllByRecursion Unbroken (map decimal ns)
decimals-unbroken [] = tt
decimals-unbroken (n ∷ ns) = (decimal-unbroken n, decimals-unbroken ns)

fields_text-unbroken : (names : Option (List Name)) → Unbroken (fields_text names)
fields_text-unbroken None = literal-unbroken (codes "null") refl
fields_text-unbroken (Some names) =
    list_text-unbroken (map quoted names) (quoted_all-unbroken names)

key_text-unbroken : (key : Option Name) → Unbroken (key_text key)
key_text-unbroken None = literal-unbroken (codes "null") refl
key_text-unbroken (Some key) = quoted-unbroken key

class_text-unbroken : (f : FormTree) → Unbroken (class_text f)
class_text-unbroken (empty key) = literal-unbroken (codes "EmptyArray") refl
class_text-unbroken (numpy key prim inner) = literal-unbroken (codes "NumpyArray") refl
class_text-unbroken (regular key size f) = literal-unbroken (codes "RegularArray") refl
class_text-unbroken (list key starts stops f) = literal-unbroken (codes "ListArray") refl
class_text-unbroken (list_offset key offsets f) = literal-unbroken (codes "ListOffsetArray") refl
class_text-unbroken (row key names fs) = literal-unbroken (codes "RecordArray") refl
class_text-unbroken (indexed key kind f) = literal-unbroken (codes "IndexedArray") refl
class_text-unbroken (indexed_option key kind f) = literal-unbroken (codes "IndexedOptionArray") refl
class_text-unbroken (byte_masked key valid_when f) = literal-unbroken (codes "ByteMaskedArray") refl
class_text-unbroken (bit_masked key valid_when lsb_order f) =
    literal-unbroken (codes "BitMaskedArray") refl
class_text-unbroken (unmasked key f) = literal-unbroken (codes "UnmaskedArray") refl
class_text-unbroken (union key kind fs) = literal-unbroken (codes "UnionArray") refl

-- a member whose name is written out, and whose value is a kind or a truth value
kind_member : (name : List ℕ) (k : IndexKind) → Unbroken name
    → Unbroken (member name (word (kind_text k)))
kind_member name k n = member-unbroken name (word (kind_text k)) n
    (word-unbroken (kind_text k) (kind_text-unbroken k))

truth_member : (name : List ℕ) (b : Bool) → Unbroken name → Unbroken (member name (truth_text b))
truth_member name b n = member-unbroken name (truth_text b) n (truth_text-unbroken b)

members_text-unbroken : (f : FormTree) → Unbroken (members_text f)
members_text-unbroken (empty key) = tt
members_text-unbroken (numpy key prim inner) =
    Unbroken-append (member (codes "primitive") (word (primitive_text prim)))
    (member (codes "inner_shape") (list_text (map decimal inner)))
    (member-unbroken (codes "primitive") (word (primitive_text prim))
    (literal-unbroken (codes "primitive") refl)
    (word-unbroken (primitive_text prim) (primitive_text-unbroken prim)))
    (member-unbroken (codes "inner_shape") (list_text (map decimal inner))
    (literal-unbroken (codes "inner_shape") refl)
    (list_text-unbroken (map decimal inner) (decimals-unbroken inner)))
members_text-unbroken (regular key size f) = member-unbroken (codes "size") (decimal size)
    (literal-unbroken (codes "size") refl) (decimal-unbroken size)
members_text-unbroken (list key starts stops f) =
    Unbroken-append (member (codes "starts") (word (kind_text starts)))
    (member (codes "stops") (word (kind_text stops)))
    (kind_member (codes "starts") starts (literal-unbroken (codes "starts") refl))
    (kind_member (codes "stops") stops (literal-unbroken (codes "stops") refl))
members_text-unbroken (list_offset key offsets f) =
    kind_member (codes "offsets") offsets (literal-unbroken (codes "offsets") refl)
members_text-unbroken (row key names fs) = member-unbroken (codes "fields") (fields_text names)
    (literal-unbroken (codes "fields") refl) (fields_text-unbroken names)
members_text-unbroken (indexed key kind f) =
    kind_member (codes "index") kind (literal-unbroken (codes "index") refl)
members_text-unbroken (indexed_option key kind f) =
    kind_member (codes "index") kind (literal-unbroken (codes "index") refl)
members_text-unbroken (byte_masked key valid_when f) =
    Unbroken-append (member (codes "mask") (word (codes "i8")))
    (member (codes "valid_when") (truth_text valid_when))
    (literal-unbroken (member (codes "mask") (word (codes "i8"))) refl)
    (truth_member (codes "valid_when") valid_when (literal-unbroken (codes "valid_when") refl))
members_text-unbroken (bit_masked key valid_when lsb_order f) =
    Unbroken-append (member (codes "mask") (word (codes "u8")))
    (member (codes "valid_when") (truth_text valid_when) ++ member (codes "lsb_order")
    (truth_text lsb_order))
    (literal-unbroken (member (codes "mask") (word (codes "u8"))) refl)
    (Unbroken-append (member (codes "valid_when") (truth_text valid_when))
    (member (codes "lsb_order") (truth_text lsb_order))
    (truth_member (codes "valid_when") valid_when (literal-unbroken (codes "valid_when") refl))
    (truth_member (codes "lsb_order") lsb_order (literal-unbroken (codes "lsb_order") refl)))
members_text-unbroken (unmasked key f) = tt
members_text-unbroken (union key kind fs) =
    Unbroken-append (member (codes "tags") (word (codes "i8")))
    (member (codes "index") (word (kind_text kind)))
    (literal-unbroken (member (codes "tags") (word (codes "i8"))) refl)
    (kind_member (codes "index") kind (literal-unbroken (codes "index") refl))

class_member-unbroken : (class : List ℕ) → Unbroken class → Unbroken (class_member class)
class_member-unbroken class c =
    Unbroken-append (codes "{\"class\":\"") (class ++ codes "\"")
    (literal-unbroken (codes "{\"class\":\"") refl)
    (Unbroken-append class (codes "\"") c (literal-unbroken (codes "\"") refl))

end_text-unbroken : (key : Option Name) → Unbroken (end_text key)
end_text-unbroken key =
    Unbroken-append (member (codes "parameters") (codes "{}"))
    (member (codes "form_key") (key_text key) ++ codes "}")
    (literal-unbroken (member (codes "parameters") (codes "{}")) refl)
    (Unbroken-append (member (codes "form_key") (key_text key)) (codes "}")
    (member-unbroken (codes "form_key") (key_text key) (literal-unbroken (codes "form_key") refl)
    (key_text-unbroken key)) (literal-unbroken (codes "}") refl))

node_text-unbroken : (f : FormTree) (contents : List ℕ) → Unbroken contents
    → Unbroken (node_text f contents)
node_text-unbroken f contents c =
    Unbroken-append (class_member (class_text f))
    (members_text f ++ (contents ++ end_text (key_of f)))
    (class_member-unbroken (class_text f) (class_text-unbroken f))
    (Unbroken-append (members_text f) (contents ++ end_text (key_of f)) (members_text-unbroken f)
    (Unbroken-append contents (end_text (key_of f)) c (end_text-unbroken (key_of f))))

-- the member of one content, or of several
content-unbroken : (text : List ℕ) → Unbroken text → Unbroken (member (codes "content") text)
content-unbroken text t =
    member-unbroken (codes "content") text (literal-unbroken (codes "content") refl) t

contents-unbroken : (texts : List (List ℕ)) → AllByRecursion Unbroken texts
    → Unbroken (member (codes "contents") (list_text texts))
contents-unbroken texts t = member-unbroken (codes "contents") (list_text texts)
    (literal-unbroken (codes "contents") refl) (list_text-unbroken texts t)

mutual
  contents_text-unbroken : (f : FormTree) → Unbroken (contents_text f)
  contents_text-unbroken (empty key) = tt
  contents_text-unbroken (numpy key prim inner) = tt
  contents_text-unbroken (regular key size f) = content-unbroken (node_text f (contents_text f))
      (node_text-unbroken f (contents_text f) (contents_text-unbroken f))
  contents_text-unbroken (list key starts stops f) =
      content-unbroken (node_text f (contents_text f))
      (node_text-unbroken f (contents_text f) (contents_text-unbroken f))
  contents_text-unbroken (list_offset key offsets f) =
      content-unbroken (node_text f (contents_text f))
      (node_text-unbroken f (contents_text f) (contents_text-unbroken f))
  contents_text-unbroken (row key names fs) =
      contents-unbroken (form_texts fs) (form_texts-unbroken fs)
  contents_text-unbroken (indexed key kind f) = content-unbroken (node_text f (contents_text f))
      (node_text-unbroken f (contents_text f) (contents_text-unbroken f))
  contents_text-unbroken (indexed_option key kind f) =
      content-unbroken (node_text f (contents_text f))
      (node_text-unbroken f (contents_text f) (contents_text-unbroken f))
  contents_text-unbroken (byte_masked key valid_when f) =
      content-unbroken (node_text f (contents_text f))
      (node_text-unbroken f (contents_text f) (contents_text-unbroken f))
  contents_text-unbroken (bit_masked key valid_when lsb_order f) =
      content-unbroken (node_text f (contents_text f))
      (node_text-unbroken f (contents_text f) (contents_text-unbroken f))
  contents_text-unbroken (unmasked key f) = content-unbroken (node_text f (contents_text f))
      (node_text-unbroken f (contents_text f) (contents_text-unbroken f))
  contents_text-unbroken (union key kind fs) =
      contents-unbroken (form_texts fs) (form_texts-unbroken fs)

  form_texts-unbroken : (fs : FormTrees) → AllByRecursion Unbroken (form_texts fs)
  form_texts-unbroken no_forms = tt
  form_texts-unbroken (form f fs) =
      (node_text-unbroken f (contents_text f) (contents_text-unbroken f), form_texts-unbroken fs)

form_text-unbroken : (f : FormTree) → Unbroken (form_text f)
form_text-unbroken f = node_text-unbroken f (contents_text f) (contents_text-unbroken f)

-- ---- packed arrays

buffer_text-unbroken : (b : Name × List ℕ) → Unbroken (buffer_text b)
buffer_text-unbroken b =
    Unbroken-append (quoted b.0) (codes ":\"" ++ (encode_of standard b.1 ++ codes "\""))
    (quoted-unbroken b.0)
    (Unbroken-append (codes ":\"") (encode_of standard b.1 ++ codes "\"")
    (literal-unbroken (codes ":\"") refl)
    (Unbroken-append (encode_of standard b.1) (codes "\"") (encode_of-unbroken b.1)
    (literal-unbroken (codes "\"") refl)))

buffer_texts-unbroken : (bs : List (Name × List ℕ)) → AllByRecursion Unbroken (map buffer_text bs)
buffer_texts-unbroken [] = tt
buffer_texts-unbroken (b ∷ bs) = (buffer_text-unbroken b, buffer_texts-unbroken bs)

pub packed_text-unbroken : (p : Pack) → Unbroken (packed_text p)
packed_text-unbroken p =
    let texts = map buffer_text (buffers p) in
    let close = literal-unbroken (codes "}") refl in
    let all : Unbroken (buffers_text p) =
    Unbroken-append (codes "{") (comma_joined texts ++ codes "}")
    (literal-unbroken (codes "{") refl)
    (Unbroken-append (comma_joined texts) (codes "}")
    (comma_joined-unbroken texts (buffer_texts-unbroken (buffers p))) close) in
    let buffered = buffers_text p ++ codes "}" in
    let counted = codes ",\"buffers\":" ++ buffered in
    let sized = decimal p.length ++ counted in
    let formed = codes ",\"length\":" ++ sized in
    Unbroken-append (codes "{\"form\":") (form_text p.form ++ formed)
    (literal-unbroken (codes "{\"form\":") refl)
    (Unbroken-append (form_text p.form) formed (form_text-unbroken p.form)
    (Unbroken-append (codes ",\"length\":") sized (literal-unbroken (codes ",\"length\":") refl)
    (Unbroken-append (decimal p.length) counted (decimal-unbroken p.length)
    (Unbroken-append (codes ",\"buffers\":") buffered
    (literal-unbroken (codes ",\"buffers\":") refl)
    (Unbroken-append (buffers_text p) (codes "}") all close)))))
