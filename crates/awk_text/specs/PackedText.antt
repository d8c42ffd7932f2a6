-- The text of a packed array: its form, its length, and the base64 of each buffer under its key.
use Rattle.std.specs.Prelude.{◌≡◌, ℕ, List, [], ◌∷◌, ◌++◌, length, map, Some, codes, decimal, refl}
use Rattle.std.specs.Prelude.{pos}
use Rattle.std.specs.Fmt.{digits}
use Rattle.base64.specs.Rfc4648.{encode_symbols}
use Rattle.awk_types.specs.DataType.{Name}
use Rattle.awk_types.specs.declared.primitive.Primitive.TheVariants as primitive
use Rattle.awk_lanes.specs.declared.kind.Kind.TheVariants as kind
use Rattle.awk_json.specs.Text.{comma_joined}
use Rattle.awk_form.specs.FormText.{form_text}
use Rattle.awk_form.specs.FormTree.{regular, empty, list_offset, numpy}
use Rattle.awk_form.specs.declared.kind.IndexKind.TheVariants.{I64}
use Rattle.awk_pack.specs.Canon.{Pack}
use Rattle.awk_text.specs.Buffers.{buffer_keys, keyed_bytes, buffer_text}

-- as many lanes as the form has buffers
abbrev pub HasLanes : Pack → Type 0
HasLanes p = length (buffer_keys p.form) ≡ length p.lanes

-- the key and the bytes of each buffer, in order
abbrev pub buffers : Pack → List (Name × List ℕ)
buffers p = keyed_bytes (buffer_keys p.form) p.lanes

abbrev pub buffers_text : Pack → List ℕ
buffers_text p = codes "{" ++ (comma_joined (map buffer_text (buffers p)) ++ codes "}")

abbrev pub packed_text : Pack → List ℕ
packed_text p =
    codes "{\"form\":" ++ (form_text p.form
    ++ (codes ",\"length\":" ++ (decimal p.length
    ++ (codes ",\"buffers\":" ++ (buffers_text p ++ codes "}")))))

-- ---- worked examples

-- three lists of size 0 have no buffer
hollow_lists : packed_text (record {
  form = regular (Some (codes "node0")) 0 (empty (Some (codes "node1")));
  length = 3;
  lanes = [];
})
    ≡ codes "{\"form\":{\"class\":\"RegularArray\",\"size\":0,\"content\":"
    ++ (codes "{\"class\":\"EmptyArray\",\"parameters\":{},\"form_key\":\"node1\"},"
    ++ codes "\"parameters\":{},\"form_key\":\"node0\"},\"length\":3,\"buffers\":{}}")
unfolding digits
hollow_lists = refl

-- the lists [1] and []
two_lists : buffers_text (record {
  form = list_offset (Some (codes "node0")) I64 (numpy (Some (codes "node1")) primitive.I8 []);
  length = 2;
  lanes = record { kind = kind.I64; items = pos 0 ∷ pos 1 ∷ pos 1 ∷ [] }
      ∷ record { kind = kind.I8; items = pos 1 ∷ [] } ∷ [];
})
    ≡ codes "{\"node0-offsets\":\"AAAAAAAAAAABAAAAAAAAAAEAAAAAAAAA\",\"node1-data\":\"AQ==\"}"
unfolding encode_symbols
two_lists = refl
