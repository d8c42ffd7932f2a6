-- The first break of the walk: nodes in pre-order, at each its sizes, then its buffers, then its
-- places.
use Rattle.std.specs.Prelude.{ℕ, suc, ◌+◌, ◌*◌, ◌||◌, nat_lt, int_lt, int_le, List, [], ◌∷◌, length}
use Rattle.std.specs.Prelude.{Option, Some, None, Result, Ok, Err, codes, ℤ, pos, if◌then◌else◌}
use Rattle.std.specs.List.{range_with_len}
use Rattle.std.specs.Ordering.{int_eq}
use Rattle.awk_types.specs.Gives.{◌or◌}
use Rattle.awk_types.specs.DataType.{Name}
use Rattle.awk_types.specs.ItemLimit.{item_limit}
use Rattle.awk_store.specs.declared.fault.BufferWhy.{BufferWhy}
use Rattle.awk_store.specs.declared.fault.BufferWhy.TheVariants as why
use Rattle.awk_form.specs.FormTree.{FormTree, empty, numpy, regular, list, list_offset, row}
use Rattle.awk_form.specs.FormTree.{indexed, indexed_option, byte_masked, bit_masked, unmasked}
use Rattle.awk_form.specs.FormTree.{union, FormTrees, no_forms, form}
use Rattle.awk_form.specs.FormText.{key_of}
use Rattle.awk_form.specs.Lawful.{count}
use Rattle.awk_form.specs.Measures.{inner_shape, nodes}
use Rattle.awk_valid.specs.Container.{Container, buffer_key, index_num, int8_num}
use Rattle.awk_valid.specs.Needs.{Need, buffer_needs, content_length}
use Rattle.awk_valid.specs.declared.fault.BufferFault.{BufferFault}
use Rattle.awk_valid.specs.declared.fault.BufferFault.TheVariants as fault
use Rattle.awk_valid.specs.declared.fault.Rule.{Rule}
use Rattle.awk_valid.specs.declared.fault.Rule.TheVariants.{Empty, Order, Start, Negative, Tag}

-- why a form does not load: the type is too deep, a node has too many items, a buffer by its key,
-- or a place of a node, which is told by its number in pre-order
pub data Refusal : Type 0 where
  too_deep too_many : Refusal
  buffer : Name → BufferFault → Refusal
  invalid : ℕ → Rule → ℕ → Refusal

-- ---- sizes

abbrev pub size_break : ℕ → Option Refusal
size_break n = if nat_lt item_limit n then Some too_many else None

-- n, n times the first inner number, n times the first two, and so on
abbrev pub shape_break : ℕ → List ℕ → Option Refusal
shape_break n [] = size_break n
shape_break n (m ∷ ms) = size_break n or shape_break (n * m) ms

-- ---- buffers

abbrev pub fault_of : BufferWhy → BufferFault
fault_of why.Absent = fault.Absent
fault_of why.Base64 = fault.Base64

-- the bytes are there, decode, and are so many
abbrev pub bytes_break : Name → ℕ → Result (List ℕ) BufferWhy → Option Refusal
bytes_break key n (Ok bytes) =
    if nat_lt (length bytes) n then Some (buffer key fault.Short) else None
bytes_break key n (Err w) = Some (buffer key (fault_of w))

abbrev pub buffers_break : Container → Option Name → List Need → Option Refusal
buffers_break c key [] = None
buffers_break c key (need ∷ needs) =
    bytes_break (buffer_key key need.attribute) need.bytes (c.bytes (buffer_key key need.attribute))
    or buffers_break c key needs

-- ---- places

-- an empty list may stand anywhere
abbrev pub list_rule : ℤ → ℤ → Option Rule
list_rule start stop =
    if int_eq start stop then None
    else if int_lt stop start then Some Order
    else if int_lt start (pos 0) then Some Start
    else None

abbrev pub index_rule : ℤ → Option Rule
index_rule z = if int_lt z (pos 0) then Some Negative else None

-- a tag is the place of one of so many alternatives
abbrev pub tag_rule : ℕ → ℤ → ℤ → Option Rule
tag_rule alternatives tag z =
    if int_lt tag (pos 0) || int_le (pos alternatives) tag then Some Tag else index_rule z

-- the rule that a place breaks, else the break of the others
abbrev pub place_break : ℕ → ℕ → Option Rule → Option Refusal → Option Refusal
place_break m i (Some rule) others = Some (invalid m rule i)
place_break m i None others = others

-- the first of these places of node m that breaks its rule
abbrev pub first_broken : ℕ → (ℕ → Option Rule) → List ℕ → Option Refusal
first_broken m rule [] = None
first_broken m rule (i ∷ is) = place_break m i (rule i) (first_broken m rule is)

-- each place below n from 0
abbrev pub rule_break : ℕ → ℕ → (ℕ → Option Rule) → Option Refusal
rule_break m n rule = first_broken m rule (range_with_len 0 n)

abbrev pub places_break : FormTree → ℕ → ℕ → Container → Option Refusal
places_break (empty key) m n c = rule_break m n (λ i. Some Empty)
places_break (list key starts stops f) m n c =
    rule_break m n
    (λ i. list_rule (index_num c key (codes "starts") starts i)
    (index_num c key (codes "stops") stops i))
places_break (list_offset key offsets f) m n c =
    rule_break m n
    (λ i. list_rule (index_num c key (codes "offsets") offsets i)
    (index_num c key (codes "offsets") offsets (i + 1)))
places_break (indexed key index f) m n c =
    rule_break m n (λ i. index_rule (index_num c key (codes "index") index i))
places_break (union key index fs) m n c =
    rule_break m n
    (λ i. tag_rule (count fs) (int8_num c key (codes "tags") i)
    (index_num c key (codes "index") index i))
places_break f m n c = None

-- ---- the walk

-- the first break of node m itself, of n items
abbrev pub node_break : FormTree → ℕ → ℕ → Container → Option Refusal
node_break f m n c =
    shape_break n (inner_shape f) or buffers_break c (key_of f) (buffer_needs f n)
    or places_break f m n c

-- the first break of node m, of n items, and of those below it
abbrev mutual
  pub broken_from : FormTree → ℕ → ℕ → Container → Option Refusal
  broken_from (empty key) m n c = node_break (empty key) m n c
  broken_from (numpy key prim inner) m n c = node_break (numpy key prim inner) m n c
  broken_from (regular key size f) m n c =
      node_break (regular key size f) m n c
      or broken_from f (m + 1) (content_length (regular key size f) n c 0) c
  broken_from (list key starts stops f) m n c =
      node_break (list key starts stops f) m n c
      or broken_from f (m + 1) (content_length (list key starts stops f) n c 0) c
  broken_from (list_offset key offsets f) m n c =
      node_break (list_offset key offsets f) m n c
      or broken_from f (m + 1) (content_length (list_offset key offsets f) n c 0) c
  broken_from (row key names fs) m n c =
      node_break (row key names fs) m n c
      or all_broken_from fs (m + 1) (content_length (row key names fs) n c) c
  broken_from (indexed key index f) m n c =
      node_break (indexed key index f) m n c
      or broken_from f (m + 1) (content_length (indexed key index f) n c 0) c
  broken_from (indexed_option key index f) m n c =
      node_break (indexed_option key index f) m n c
      or broken_from f (m + 1) (content_length (indexed_option key index f) n c 0) c
  broken_from (byte_masked key valid_when f) m n c =
      node_break (byte_masked key valid_when f) m n c
      or broken_from f (m + 1) (content_length (byte_masked key valid_when f) n c 0) c
  broken_from (bit_masked key valid_when lsb_order f) m n c =
      node_break (bit_masked key valid_when lsb_order f) m n c
      or broken_from f (m + 1) (content_length (bit_masked key valid_when lsb_order f) n c 0) c
  broken_from (unmasked key f) m n c =
      node_break (unmasked key f) m n c
      or broken_from f (m + 1) (content_length (unmasked key f) n c 0) c
  broken_from (union key index fs) m n c =
      node_break (union key index fs) m n c
      or all_broken_from fs (m + 1) (content_length (union key index fs) n c) c

  -- of contents from node m on, the k-th of which has the length that is told of k
  pub all_broken_from : FormTrees → ℕ → (ℕ → ℕ) → Container → Option Refusal
  all_broken_from no_forms m lengths c = None
  all_broken_from (form f fs) m lengths c =
      broken_from f m (lengths 0) c or all_broken_from fs (m + nodes f) (λ k. lengths (suc k)) c

-- the first break of a form of n items
abbrev pub broken : FormTree → ℕ → Container → Option Refusal
broken f n c = broken_from f 0 n c
