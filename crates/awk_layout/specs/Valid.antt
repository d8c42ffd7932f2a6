-- How many items a layout has, and when it is valid.
use Rattle.std.specs.Prelude.{◌≡◌, ℕ, zero, suc, pos, ◌≤ℤ◌, ◌-◌, ◌*◌, ◌<◌, ◌≤◌, ◌^◌, List, length}
use Rattle.std.specs.Prelude.{Option, Some, None}
use Rattle.awk_types.specs.DataType.{Name}
use Rattle.awk_types.specs.Names.{AreDistinct}
use Rattle.awk_lanes.specs.Column.{Column}
use Rattle.awk_lanes.specs.Places.{size_of, at, place_at, IsIndexKind, IsOffsets, AreSpans}
use Rattle.awk_lanes.specs.Places.{IsOptionalIndex, IsIndex}
use Rattle.awk_lanes.specs.declared.kind.Kind.TheVariants.{I8}
use Rattle.awk_layout.specs.Layout.{Layout, Layouts, count, empty, flat, regular, lists}
use Rattle.awk_layout.specs.Layout.{offset_lists, rows, indexed, optional, byte_masked, bit_masked}
use Rattle.awk_layout.specs.Layout.{unmasked, union, no_layouts, layout}

-- the number of items
abbrev pub len : Layout → ℕ
len empty = 0
len (flat c) = size_of c
len (regular size n x) = n
len (lists s t x) = size_of s
len (offset_lists o x) = size_of o - 1
len (rows names n xs) = n
len (indexed j x) = size_of j
len (optional j x) = size_of j
len (byte_masked m v x) = size_of m
len (bit_masked m v x) = length m
len (unmasked n x) = n
len (union t j xs) = size_of t

-- the number of items of the k-th of these, or 0
abbrev pub len_of : Layouts → ℕ → ℕ
len_of no_layouts k = 0
len_of (layout x xs) zero = len x
len_of (layout x xs) (suc k) = len_of xs k

-- each has at least n items
abbrev pub AllReach : ℕ → Layouts → Type 0
AllReach n no_layouts = Unit {0}
AllReach n (layout x xs) = (n ≤ len x) × AllReach n xs

-- the names of n fields: none of a tuple, else n names and no name twice
abbrev pub AreNames : Option (List Name) → ℕ → Type 0
AreNames None n = Unit {0}
AreNames (Some names) n = (length names ≡ n) × AreDistinct names

-- a mask of bytes, over a list of n items
pub record IsByteMask (m : Column) (n : ℕ) : Type 0 where
  pub kind : m.kind ≡ I8
  pub reach : size_of m ≤ n

-- each tag is the place of a content, and each index a place of that content
pub record IsUnion (t j : Column) (xs : Layouts) : Type 0 where
  pub some : 0 < count xs
  pub tag_kind : t.kind ≡ I8
  pub index_kind : IsIndexKind j.kind
  pub same_size : size_of t ≡ size_of j
  pub tags : (i : ℕ) → i < size_of t → (pos 0 ≤ℤ at t i) × (place_at t i < count xs)
  pub places : (i : ℕ) → i < size_of t
      → (pos 0 ≤ℤ at j i) × (place_at j i < len_of xs (place_at t i))

-- no node has more than 2 ^ 63 - 1 items, and each meets the condition of its class
abbrev mutual
  pub IsValid : Layout → Type 0
  IsValid empty = Unit {0}
  IsValid (flat c) = size_of c < 2 ^ 63
  IsValid (regular size n x) = (n < 2 ^ 63) × (n * size ≤ len x) × IsValid x
  IsValid (lists s t x) = (size_of s < 2 ^ 63) × AreSpans s t (len x) × IsValid x
  IsValid (offset_lists o x) = (size_of o ≤ 2 ^ 63) × IsOffsets o (len x) × IsValid x
  IsValid (rows names n xs) = (n < 2 ^ 63) × AreNames names (count xs) × AllReach n xs × AllValid xs
  IsValid (indexed j x) = (size_of j < 2 ^ 63) × IsIndex j (len x) × IsValid x
  IsValid (optional j x) = (size_of j < 2 ^ 63) × IsOptionalIndex j (len x) × IsValid x
  IsValid (byte_masked m v x) = (size_of m < 2 ^ 63) × IsByteMask m (len x) × IsValid x
  IsValid (bit_masked m v x) = (length m < 2 ^ 63) × (length m ≤ len x) × IsValid x
  IsValid (unmasked n x) = (n < 2 ^ 63) × (n ≤ len x) × IsValid x
  IsValid (union t j xs) = (size_of t < 2 ^ 63) × IsUnion t j xs × AllValid xs

  pub AllValid : Layouts → Type 0
  AllValid no_layouts = Unit {0}
  AllValid (layout x xs) = IsValid x × AllValid xs
