-- What a node holds beside its contents, and the node over its contents.
use Rattle.std.specs.Prelude.{ℕ, ◌+◌, ◌-◌, List, length, get_or, map, codes}
use Rattle.std.specs.List.{range_with_len}
use Rattle.awk_bits.specs.Bits.{bits}
use Rattle.awk_layout.specs.Layout as made
use Rattle.awk_layout.specs.Layout.{Layout, layouts_from}
use Rattle.awk_form.specs.FormTree.{FormTree, contents_of, empty, numpy, regular, list, list_offset}
use Rattle.awk_form.specs.FormTree.{row, indexed, indexed_option, byte_masked, bit_masked, unmasked}
use Rattle.awk_form.specs.FormTree.{union}
use Rattle.awk_form.specs.Lawful.{count}
use Rattle.awk_valid.specs.Container.{Container, bytes_at, index_at, int8s_at}
use Rattle.awk_valid.specs.Loaded.{layout_of}
use Rattle.awk_valid.specs.Needs.{content_length}
use Rattle.awk_valid.specs.declared.own.One.{One}
use Rattle.awk_valid.specs.declared.own.One.TheVariants.{Regular, Lists, OffsetLists, Indexed}
use Rattle.awk_valid.specs.declared.own.One.TheVariants.{Optional, ByteMasked, BitMasked, Unmasked}
use Rattle.awk_valid.specs.declared.own.Own.{Own}
use Rattle.awk_valid.specs.declared.own.Own.TheVariants.{Whole, Over, Rows, Union}

-- the lengths of the contents
abbrev pub lengths_of : FormTree → ℕ → Container → List ℕ
lengths_of f n c = map (content_length f n c) (range_with_len 0 (count (contents_of f)))

abbrev pub own_of : FormTree → ℕ → Container → Own
own_of (empty key) n c = Whole made.empty
own_of (numpy key prim inner) n c = Whole (layout_of (numpy key prim inner) n c)
own_of (regular key size f) n c = Over (Regular size)
own_of (list key starts stops f) n c =
    Over (Lists (index_at c key (codes "starts") starts n) (index_at c key (codes "stops") stops n))
own_of (list_offset key offsets f) n c =
    Over (OffsetLists (index_at c key (codes "offsets") offsets (n + 1)))
own_of (row key names fs) n c = Rows names
own_of (indexed key index f) n c = Over (Indexed (index_at c key (codes "index") index n))
own_of (indexed_option key index f) n c = Over (Optional (index_at c key (codes "index") index n))
own_of (byte_masked key valid_when f) n c =
    Over (ByteMasked (int8s_at c key (codes "mask") n) valid_when)
own_of (bit_masked key valid_when lsb_order f) n c =
    Over (BitMasked (bits lsb_order (bytes_at c key (codes "mask")) 0 n) valid_when)
own_of (unmasked key f) n c = Over Unmasked
own_of (union key index fs) n c =
    Union (int8s_at c key (codes "tags") n) (index_at c key (codes "index") index n)

-- the last of the contents of a node, or a layout of no items
abbrev pub only : List Layout → Layout
only xs = get_or xs (length xs - 1) made.empty

-- the node of n items over one content
abbrev pub over_one : ℕ → One → Layout → Layout
over_one n (Regular size) x = made.regular size n x
over_one n (Lists starts stops) x = made.lists starts stops x
over_one n (OffsetLists offsets) x = made.offset_lists offsets x
over_one n (Indexed index) x = made.indexed index x
over_one n (Optional index) x = made.optional index x
over_one n (ByteMasked mask valid_when) x = made.byte_masked mask valid_when x
over_one n (BitMasked mask valid_when) x = made.bit_masked mask valid_when x
over_one n Unmasked x = made.unmasked n x

-- the node of n items over its contents
abbrev pub over : ℕ → Own → List Layout → Layout
over n (Whole x) xs = x
over n (Over one) xs = over_one n one (only xs)
over n (Rows names) xs = made.rows names n (layouts_from xs)
over n (Union tags index) xs = made.union tags index (layouts_from xs)
