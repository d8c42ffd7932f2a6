-- Layouts: what a node is seen as. Each class has its lanes as columns.
use Rattle.std.specs.Prelude.{ℕ, max, ◌+◌, List, [], ◌∷◌, Option, Bool, true, false, if◌then◌else◌}
use Rattle.awk_types.specs.DataType.{Name}
use Rattle.awk_lanes.specs.Column.{Column}

mutual
  pub data Layout : Type 0 where
    -- EmptyArray
    empty : Layout
    -- NumpyArray: its numbers
    flat : Column → Layout
    -- RegularArray: the size of each list, and how many lists
    regular : ℕ → ℕ → Layout → Layout
    -- ListArray: starts and stops
    lists : Column → Column → Layout → Layout
    -- ListOffsetArray: offsets
    offset_lists : Column → Layout → Layout
    -- RecordArray: the names of its fields, where it is no tuple, and how many rows
    rows : Option (List Name) → ℕ → Layouts → Layout
    -- IndexedArray: index
    indexed : Column → Layout → Layout
    -- IndexedOptionArray: index
    optional : Column → Layout → Layout
    -- ByteMaskedArray: mask and valid_when
    byte_masked : Column → Bool → Layout → Layout
    -- BitMaskedArray: the bits of its mask, in the order of the items, and valid_when
    bit_masked : List Bool → Bool → Layout → Layout
    -- UnmaskedArray: how many items
    unmasked : ℕ → Layout → Layout
    -- UnionArray: tags and index
    union : Column → Column → Layouts → Layout

  pub data Layouts : Type 0 where
    no_layouts : Layouts
    layout : Layout → Layouts → Layouts

-- layouts as a list, and back
abbrev pub layout_list : Layouts → List Layout
layout_list no_layouts = []
layout_list (layout x xs) = x ∷ layout_list xs

abbrev pub layouts_from : List Layout → Layouts
layouts_from [] = no_layouts
layouts_from (x ∷ xs) = layout x (layouts_from xs)

-- how many layouts there are
abbrev pub count : Layouts → ℕ
count no_layouts = 0
count (layout x xs) = count xs + 1

-- the layouts directly below
abbrev pub contents_of : Layout → Layouts
contents_of empty = no_layouts
contents_of (flat c) = no_layouts
contents_of (regular size n x) = layout x no_layouts
contents_of (lists s t x) = layout x no_layouts
contents_of (offset_lists o x) = layout x no_layouts
contents_of (rows names n xs) = xs
contents_of (indexed j x) = layout x no_layouts
contents_of (optional j x) = layout x no_layouts
contents_of (byte_masked m v x) = layout x no_layouts
contents_of (bit_masked m v x) = layout x no_layouts
contents_of (unmasked n x) = layout x no_layouts
contents_of (union t j xs) = xs

-- What a node gives: `own` makes it of the node and of what its contents give. One content gives
-- its own, several give theirs joined in order, with `none` at the end.
module _ {ℓ} {A : Type ℓ} (none : A) (join : A → A → A) (own : Layout → A → A) where
  abbrev mutual
    pub fold : Layout → A
    fold empty = own empty none
    fold (flat c) = own (flat c) none
    fold (regular size n x) = own (regular size n x) (fold x)
    fold (lists s t x) = own (lists s t x) (fold x)
    fold (offset_lists o x) = own (offset_lists o x) (fold x)
    fold (rows names n xs) = own (rows names n xs) (folds xs)
    fold (indexed j x) = own (indexed j x) (fold x)
    fold (optional j x) = own (optional j x) (fold x)
    fold (byte_masked m v x) = own (byte_masked m v x) (fold x)
    fold (bit_masked m v x) = own (bit_masked m v x) (fold x)
    fold (unmasked n x) = own (unmasked n x) (fold x)
    fold (union t j xs) = own (union t j xs) (folds xs)

    pub folds : Layouts → A
    folds no_layouts = none
    folds (layout x xs) = join (fold x) (folds xs)

-- one for itself, beside its contents
abbrev pub one_more : Layout → ℕ → ℕ
one_more x n = n + 1

-- the number of nodes
abbrev pub weight : Layout → ℕ
weight = fold 0 ◌+◌ one_more

-- of all together
abbrev pub weights : Layouts → ℕ
weights = folds 0 ◌+◌ one_more

-- the number of nodes on the longest path
abbrev pub height : Layout → ℕ
height = fold 0 max one_more

-- the greatest of them, or 0
abbrev pub heights : Layouts → ℕ
heights = folds 0 max one_more

abbrev pub is_rows : Layout → Bool
is_rows (rows names n xs) = true
is_rows x = false

-- one for itself, unless it is an IndexedArray directly over a RecordArray
abbrev pub itself_held : Layout → ℕ → ℕ
itself_held (indexed j x) n = n + (if is_rows x then 0 else 1)
itself_held x n = n + 1

-- the number of nodes without the IndexedArrays that stand directly over a RecordArray
abbrev pub held : Layout → ℕ
held = fold 0 ◌+◌ itself_held

-- of all together
abbrev pub held_all : Layouts → ℕ
held_all = folds 0 ◌+◌ itself_held
