-- The layout that a form, a length and a container stand for. It is so also where the walk breaks:
-- there a buffer without bytes counts as empty, and a number behind the last byte is 0.
use Rattle.std.specs.Prelude.{ℕ, suc, ◌+◌, ◌*◌, List, [], ◌∷◌, codes}
use Rattle.awk_bits.specs.Bits.{bits}
use Rattle.awk_layout.specs.Layout as made
use Rattle.awk_layout.specs.Layout.{Layout, Layouts}
use Rattle.awk_form.specs.FormTree.{FormTree, empty, numpy, regular, list, list_offset, row}
use Rattle.awk_form.specs.FormTree.{indexed, indexed_option, byte_masked, bit_masked, unmasked}
use Rattle.awk_form.specs.FormTree.{union, FormTrees, no_forms, form}
use Rattle.awk_layout.specs.Kinds.{kind_of}
use Rattle.awk_valid.specs.Container.{Container, bytes_at, column_at, index_at, int8s_at}
use Rattle.awk_valid.specs.Needs.{product, content_length}

-- n items of an inner shape, over all their numbers
abbrev pub shaped : List ℕ → ℕ → Layout → Layout
shaped [] n numbers = numbers
shaped (size ∷ sizes) n numbers = made.regular size n (shaped sizes (n * size) numbers)

abbrev mutual
  pub layout_of : FormTree → ℕ → Container → Layout
  layout_of (empty key) n c = made.empty
  layout_of (numpy key prim inner) n c =
      shaped inner n
      (made.flat
      (column_at c.big (kind_of prim) (n * product inner) (bytes_at c key (codes "data"))))
  layout_of (regular key size f) n c =
      made.regular size n (layout_of f (content_length (regular key size f) n c 0) c)
  layout_of (list key starts stops f) n c =
      made.lists (index_at c key (codes "starts") starts n) (index_at c key (codes "stops") stops n)
      (layout_of f (content_length (list key starts stops f) n c 0) c)
  layout_of (list_offset key offsets f) n c =
      made.offset_lists (index_at c key (codes "offsets") offsets (n + 1))
      (layout_of f (content_length (list_offset key offsets f) n c 0) c)
  layout_of (row key names fs) n c =
      made.rows names n (layouts_of fs (content_length (row key names fs) n c) c)
  layout_of (indexed key index f) n c =
      made.indexed (index_at c key (codes "index") index n)
      (layout_of f (content_length (indexed key index f) n c 0) c)
  layout_of (indexed_option key index f) n c =
      made.optional (index_at c key (codes "index") index n)
      (layout_of f (content_length (indexed_option key index f) n c 0) c)
  layout_of (byte_masked key valid_when f) n c =
      made.byte_masked (int8s_at c key (codes "mask") n) valid_when (layout_of f n c)
  layout_of (bit_masked key valid_when lsb_order f) n c =
      made.bit_masked (bits lsb_order (bytes_at c key (codes "mask")) 0 n) valid_when
      (layout_of f n c)
  layout_of (unmasked key f) n c = made.unmasked n (layout_of f n c)
  layout_of (union key index fs) n c =
      made.union (int8s_at c key (codes "tags") n) (index_at c key (codes "index") index n)
      (layouts_of fs (content_length (union key index fs) n c) c)

  -- of contents, the k-th of which has the length that is told of k
  pub layouts_of : FormTrees → (ℕ → ℕ) → Container → Layouts
  layouts_of no_forms lengths c = made.no_layouts
  layouts_of (form f fs) lengths c =
      made.layout (layout_of f (lengths 0) c) (layouts_of fs (λ k. lengths (suc k)) c)
