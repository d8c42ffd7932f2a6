-- The buffers of a form with lanes, and their texts: nodes in pre-order, and at a node in the order
-- of its class.
use Rattle.std.specs.Prelude.{◌≡◌, ℕ, zero, suc, ◌+◌, ◌==◌, List, [], ◌∷◌, ◌++◌, get_or, Option}
use Rattle.std.specs.Prelude.{Some, None}
use Rattle.std.specs.Prelude.{unwrap_or, codes, pos, refl, if◌then◌else◌}
use Rattle.std.specs.List.{flat_map}
use Rattle.base64.specs.Engines.{standard}
use Rattle.base64.specs.GeneralPurpose.{encode_of}
use Rattle.base64.specs.Rfc4648.{encode_symbols}
use Rattle.awk_types.specs.DataType.{Name}
use Rattle.awk_types.specs.declared.primitive.Primitive.TheVariants as primitive
use Rattle.awk_lanes.specs.declared.kind.Kind.TheVariants as kind
use Rattle.awk_lanes.specs.Column.{Column}
use Rattle.awk_lanes.specs.Numbers.{bytes_of}
use Rattle.awk_lanes.specs.Places.{size_of}
use Rattle.awk_json.specs.Text.{quoted}
use Rattle.awk_form.specs.FormTree.{FormTree, FormTrees, fold, folds}
use Rattle.awk_form.specs.FormTree.{empty, numpy, regular, list, list_offset, row}
use Rattle.awk_form.specs.FormTree.{indexed, indexed_option, byte_masked, bit_masked, unmasked}
use Rattle.awk_form.specs.FormTree.{union, no_forms, form}
use Rattle.awk_form.specs.declared.kind.IndexKind.TheVariants as index

-- ---- keys

-- the form key, a dash, and what the buffer is for
abbrev pub buffer_key : Option Name → Name → Name
buffer_key key attribute = unwrap_or key [] ++ codes "-" ++ attribute

-- those of a node itself
abbrev pub own_keys : FormTree → List Name
own_keys (empty key) = []
own_keys (numpy key prim inner) = buffer_key key (codes "data") ∷ []
own_keys (regular key size f) = []
own_keys (list key starts stops f) =
    buffer_key key (codes "starts") ∷ buffer_key key (codes "stops") ∷ []
own_keys (list_offset key offsets f) = buffer_key key (codes "offsets") ∷ []
own_keys (row key names fs) = []
own_keys (indexed key index f) = buffer_key key (codes "index") ∷ []
own_keys (indexed_option key index f) = buffer_key key (codes "index") ∷ []
own_keys (byte_masked key valid_when f) = buffer_key key (codes "mask") ∷ []
own_keys (bit_masked key valid_when lsb_order f) = buffer_key key (codes "mask") ∷ []
own_keys (unmasked key f) = []
own_keys (union key index fs) =
    buffer_key key (codes "tags") ∷ buffer_key key (codes "index") ∷ []

-- a node's own before those below it
abbrev pub own_first : FormTree → List Name → List Name
own_first f below = own_keys f ++ below

abbrev pub buffer_keys : FormTree → List Name
buffer_keys = fold [] ◌++◌ own_first

-- of contents in order
abbrev pub keys_of : FormTrees → List Name
keys_of = folds [] ◌++◌ own_first

-- ---- buffers

abbrev pub lane_bytes : Column → List ℕ
lane_bytes c = flat_map (bytes_of c.kind) c.items

-- each key beside the bytes of its lane
abbrev pub keyed_bytes : List Name → List Column → List (Name × List ℕ)
keyed_bytes (k ∷ ks) (c ∷ cs) = (k, lane_bytes c) ∷ keyed_bytes ks cs
keyed_bytes ks cs = []

-- a buffer's key and the base64 of its bytes
abbrev pub buffer_text : Name × List ℕ → List ℕ
buffer_text b = quoted b.0 ++ (codes ":\"" ++ (encode_of standard b.1 ++ codes "\""))

-- ---- the same from a place on

-- a comma stands before each buffer but the first
abbrev pub separator : ℕ → List ℕ
separator n = if n == 0 then [] else codes ","

abbrev pub no_lane : Column
no_lane = record { kind = kind.Bool; items = [] }

-- the lane at a place, or one without numbers
abbrev pub lane_at : List Column → ℕ → Column
lane_at cs n = get_or cs n no_lane

-- the buffers with these keys, the first of which has the lane at place n
abbrev pub texts_from : ℕ → List Name → List Column → List ℕ
texts_from n [] cs = []
texts_from n (k ∷ ks) cs =
    separator n ++ (buffer_text (k, lane_bytes (lane_at cs n)) ++ texts_from (suc n) ks cs)

-- how many numbers the lanes before a place have, and how many all have
abbrev pub numbers_before : ℕ → List Column → ℕ
numbers_before zero cs = 0
numbers_before (suc n) [] = 0
numbers_before (suc n) (c ∷ cs) = size_of c + numbers_before n cs

abbrev pub numbers_in : List Column → ℕ
numbers_in [] = 0
numbers_in (c ∷ cs) = size_of c + numbers_in cs

-- ---- worked examples

-- tags come before an index, and both before those of the contents
keys_in_order : buffer_keys (union (Some (codes "u")) index.I64
    (form (list_offset (Some (codes "l")) index.I64 (numpy (Some (codes "n")) primitive.I64 []))
    (form (empty None) no_forms)))
    ≡ codes "u-tags" ∷ codes "u-index" ∷ codes "l-offsets" ∷ codes "n-data" ∷ []
keys_in_order = refl

-- the numbers 1 and 258, of two bytes each
two_numbers : buffer_text (
  codes "n-data",
  lane_bytes (record { kind = kind.I16; items = pos 1 ∷ pos 258 ∷ [] }),
)
    ≡ codes "\"n-data\":\"AQACAQ==\""
unfolding encode_symbols
two_numbers = refl
