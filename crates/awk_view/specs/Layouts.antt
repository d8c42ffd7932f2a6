-- What is chosen of a layout: each lane stays, and of a record's column the items below the
-- record's length.
use Rattle.std.specs.Prelude.{◌≡◌, ℕ, ◌+◌, true, List, [], ◌∷◌, length, map, slice_range, Option}
use Rattle.std.specs.Prelude.{None, option_map}
use Rattle.std.specs.List.{AllByRecursion}
use Rattle.awk_types.specs.DataType.{Name, DataType, unknown, leaf, var, reg, rec, tup, opt, uni}
use Rattle.awk_types.specs.DataType.{DataTypes, no_types, type}
use Rattle.awk_types.specs.IsType.{count}
use Rattle.awk_types.specs.Names.{is_among, AreDistinct}
use Rattle.awk_lanes.specs.Cut.{cut_of}
use Rattle.awk_layout.specs.Layout.{Layout, Layouts, layout_list, layouts_from, empty, flat}
use Rattle.awk_layout.specs.Layout.{regular, lists, offset_lists, rows, indexed, optional}
use Rattle.awk_layout.specs.Layout.{byte_masked, bit_masked, unmasked, union, no_layouts, layout}
use Rattle.awk_view.specs.Choice.{Choice, field, fields, without, row_names, beside, apart_from}

-- the names of a choice differ from one another
abbrev pub IsChoice : Choice → Type 0
IsChoice (field k) = Unit {0}
IsChoice (fields ks) = AreDistinct ks
IsChoice (without k) = Unit {0}

-- the names of a choice are among these
abbrev pub AreAmong : Choice → List Name → Type 0
AreAmong (field k) names = is_among k names ≡ true
AreAmong (fields ks) names = AllByRecursion (λ k. is_among k names ≡ true) ks
AreAmong (without k) names = is_among k names ≡ true

-- every record that is met has the names of the choice, and nothing but records is met
abbrev mutual
  pub IsFound : Choice → DataType → Type 0
  IsFound c unknown = ⊥
  IsFound c (leaf p) = ⊥
  IsFound c (var t) = IsFound c t
  IsFound c (reg n t) = IsFound c t
  IsFound c (rec names ts) = AreAmong c names
  IsFound c (tup ts) = AreAmong c (row_names None (count ts))
  IsFound c (opt t) = IsFound c t
  IsFound c (uni ts) = AreFound c ts

  pub AreFound : Choice → DataTypes → Type 0
  AreFound c no_types = Unit {0}
  AreFound c (type t ts) = IsFound c t × AreFound c ts

-- the first n items: lanes are cut, and contents stay
abbrev pub first_items : ℕ → Layout → Layout
first_items n empty = empty
first_items n (flat c) = flat (cut_of c 0 n)
first_items n (regular size m x) = regular size n x
first_items n (lists s t x) = lists (cut_of s 0 n) (cut_of t 0 n) x
first_items n (offset_lists o x) = offset_lists (cut_of o 0 (n + 1)) x
first_items n (rows names m xs) = rows names n xs
first_items n (indexed j x) = indexed (cut_of j 0 n) x
first_items n (optional j x) = optional (cut_of j 0 n) x
first_items n (byte_masked m v x) = byte_masked (cut_of m 0 n) v x
first_items n (bit_masked m v x) = bit_masked (slice_range m 0 n) v x
first_items n (unmasked m x) = unmasked n x
first_items n (union t j xs) = union (cut_of t 0 n) (cut_of j 0 n) xs

-- of n rows with these contents
abbrev pub row_of_choice : Choice → Option (List Name) → ℕ → List Layout → Layout
row_of_choice (field k) names n xs = first_items n (beside empty k (row_names names (length xs)) xs)
row_of_choice (fields ks) names n xs =
    rows (option_map (λ _. ks) names) n
    (layouts_from (map (λ k. beside empty k (row_names names (length xs)) xs) ks))
row_of_choice (without k) names n xs =
    rows (option_map (λ ns. apart_from k ns ns) names) n
    (layouts_from (apart_from k (row_names names (length xs)) xs))

abbrev mutual
  pub layout_of_choice : Choice → Layout → Layout
  layout_of_choice c empty = empty
  layout_of_choice c (flat l) = flat l
  layout_of_choice c (regular size n x) = regular size n (layout_of_choice c x)
  layout_of_choice c (lists s t x) = lists s t (layout_of_choice c x)
  layout_of_choice c (offset_lists o x) = offset_lists o (layout_of_choice c x)
  layout_of_choice c (rows names n xs) = row_of_choice c names n (layout_list xs)
  layout_of_choice c (indexed j x) = indexed j (layout_of_choice c x)
  layout_of_choice c (optional j x) = optional j (layout_of_choice c x)
  layout_of_choice c (byte_masked m v x) = byte_masked m v (layout_of_choice c x)
  layout_of_choice c (bit_masked m v x) = bit_masked m v (layout_of_choice c x)
  layout_of_choice c (unmasked n x) = unmasked n (layout_of_choice c x)
  layout_of_choice c (union t j xs) = union t j (layouts_from (layouts_of_choice c xs))

  pub layouts_of_choice : Choice → Layouts → List Layout
  layouts_of_choice c no_layouts = []
  layouts_of_choice c (layout x xs) = layout_of_choice c x ∷ layouts_of_choice c xs
