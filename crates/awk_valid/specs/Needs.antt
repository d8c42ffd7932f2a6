-- What a node of n items needs: the bytes of its buffers, and the length of each of its contents.
use Rattle.std.specs.Prelude.{ℕ, ◌+◌, ◌*◌, ◌/◌, List, [], ◌∷◌, map, codes, ℤ, pos, negsuc}
use Rattle.std.specs.Prelude.{if◌then◌else◌}
use Rattle.std.specs.List.{range_with_len}
use Rattle.std.specs.Ordering.{int_eq}
use Rattle.awk_types.specs.DataType.{greatest}
use Rattle.awk_lanes.specs.Numbers.{width, nat_of}
use Rattle.awk_form.specs.FormTree.{FormTree, empty, numpy, regular, list, list_offset, row}
use Rattle.awk_form.specs.FormTree.{indexed, indexed_option, byte_masked, bit_masked, unmasked}
use Rattle.awk_form.specs.FormTree.{union}
use Rattle.awk_form.specs.declared.kind.IndexKind.{IndexKind}
use Rattle.awk_layout.specs.Kinds.{kind_of}
use Rattle.awk_valid.specs.Container.{Container, kind_of_index, index_num, int8_num}

-- ---- the bytes of its buffers

abbrev pub product : List ℕ → ℕ
product [] = 1
product (n ∷ ns) = n * product ns

-- what a buffer is for, and how many bytes it has at least
pub record Need : Type 0 where
  pub attribute : List ℕ
  pub bytes : ℕ

abbrev pub need_of : List ℕ → ℕ → Need
need_of attribute n = record { attribute = attribute; bytes = n }

-- n numbers of an index
abbrev pub index_need : List ℕ → IndexKind → ℕ → Need
index_need attribute k n = need_of attribute (n * width (kind_of_index k))

-- the buffers of a node, in order
abbrev pub buffer_needs : FormTree → ℕ → List Need
buffer_needs (empty key) n = []
buffer_needs (numpy key prim inner) n =
    need_of (codes "data") (n * product inner * width (kind_of prim)) ∷ []
buffer_needs (regular key size f) n = []
buffer_needs (list key starts stops f) n =
    index_need (codes "starts") starts n ∷ index_need (codes "stops") stops n ∷ []
buffer_needs (list_offset key offsets f) n = index_need (codes "offsets") offsets (n + 1) ∷ []
buffer_needs (row key names fs) n = []
buffer_needs (indexed key index f) n = index_need (codes "index") index n ∷ []
buffer_needs (indexed_option key index f) n = index_need (codes "index") index n ∷ []
buffer_needs (byte_masked key valid_when f) n = need_of (codes "mask") n ∷ []
buffer_needs (bit_masked key valid_when lsb_order f) n = need_of (codes "mask") ((n + 7) / 8) ∷ []
buffer_needs (unmasked key f) n = []
buffer_needs (union key index fs) n =
    need_of (codes "tags") n ∷ index_need (codes "index") index n ∷ []

-- ---- the lengths of its contents

-- the greatest number that f gives at the places below n, or 0
abbrev pub greatest_below : ℕ → (ℕ → ℕ) → ℕ
greatest_below n f = greatest (map f (range_with_len 0 n))

-- the place behind a list's last item; an empty list needs no item
abbrev pub reach : ℤ → ℤ → ℕ
reach start stop = if int_eq start stop then 0 else nat_of stop

-- the place behind an index; a negative one needs no item
abbrev pub behind : ℤ → ℕ
behind (pos n) = n + 1
behind (negsuc n) = 0

-- the place behind an index at a tag; one at another tag needs no item
abbrev pub behind_at : ℕ → ℤ → ℤ → ℕ
behind_at k tag z = if int_eq tag (pos k) then behind z else 0

-- the greatest stop of n lists, or 0
abbrev pub lists_length : ℕ → (ℕ → ℤ) → (ℕ → ℤ) → ℕ
lists_length n starts stops = greatest_below n (λ i. reach (starts i) (stops i))

-- the greatest of n indexes and one more, or 0
abbrev pub index_length : ℕ → (ℕ → ℤ) → ℕ
index_length n index = greatest_below n (λ i. behind (index i))

-- the same of those at a tag
abbrev pub tag_length : ℕ → (ℕ → ℤ) → (ℕ → ℤ) → ℕ → ℕ
tag_length n tags index k = greatest_below n (λ i. behind_at k (tags i) (index i))

-- the length of the k-th content of a node
abbrev pub content_length : FormTree → ℕ → Container → ℕ → ℕ
content_length (empty key) n c k = 0
content_length (numpy key prim inner) n c k = 0
content_length (regular key size f) n c k = n * size
content_length (list key starts stops f) n c k =
    lists_length n (index_num c key (codes "starts") starts) (index_num c key (codes "stops") stops)
content_length (list_offset key offsets f) n c k =
    lists_length n (index_num c key (codes "offsets") offsets)
    (λ i. index_num c key (codes "offsets") offsets (i + 1))
content_length (row key names fs) n c k = n
content_length (indexed key index f) n c k =
    index_length n (index_num c key (codes "index") index)
content_length (indexed_option key index f) n c k =
    index_length n (index_num c key (codes "index") index)
content_length (byte_masked key valid_when f) n c k = n
content_length (bit_masked key valid_when lsb_order f) n c k = n
content_length (unmasked key f) n c k = n
content_length (union key index fs) n c k =
    tag_length n (int8_num c key (codes "tags")) (index_num c key (codes "index") index) k
