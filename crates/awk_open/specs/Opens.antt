-- What the outermost kind of an array tells: its lanes and contents, whose items are columns of
-- those of the array.
use Rattle.std.specs.Prelude.{◌≡◌, ℕ, zero, suc, ◌-◌, ◌<◌, ◌^◌, List, [], ◌∷◌, map, Option}
use Rattle.awk_types.specs.DataType.{Name, unknown, leaf, opt, uni, types_from, row_type}
use Rattle.awk_types.specs.Value.{Value, Values, null, list, row, alt, no_values, value}
use Rattle.awk_lanes.specs.Column.{Column}
use Rattle.awk_lanes.specs.Places.{size_of, place_at, option_place_at, IsOptionalIndex}
use Rattle.awk_layout.specs.Layout.{Layout, layouts_from, count}
use Rattle.awk_layout.specs.Valid.{len, IsValid, AllValid, AreNames, IsUnion}
use Rattle.awk_layout.specs.Item.{run, at_option}
use Rattle.awk_layout.specs.Typing.{array_type, array_items}
use Rattle.awk_layout.specs.Kinds.{primitive_of}
use Rattle.awk_columns.specs.Columns.{present_values}
use Rattle.awk_gather.specs.Arrays.{array_item}
use Rattle.awk_columns.specs.Parts.{AreParts, AreAlternatives}
use Rattle.awk_columns.specs.ListClass.{Class, list_type}
use Rattle.awk_columns.specs.Lists.{AreLists}
use Rattle.awk_open.specs.Opened.{AreLong}
use Rattle.awk_open.specs.declared.opening.Opened.{Opened}
use Rattle.awk_open.specs.declared.opening.Opened.TheVariants.{Empty, Leaf, Items, Row}
use Rattle.awk_open.specs.declared.opening.Opened.TheVariants.{Option as Optional, Union}

pub record OpensLists (class : Class) (s t : Column) (y x : Layout) : Type 0 where
  pub typ : array_type x ≡ list_type class (array_type y)
  pub lists : AreLists class s t y
  pub size : size_of s ≡ len x
  pub items : (i : ℕ) → i < len x → array_item x i
      ≡ list (run (array_item y) (place_at s i) (place_at t i - place_at s i))

pub record OpensOption (j : Column) (y x : Layout) : Type 0 where
  pub typ : array_type x ≡ opt (array_type y)
  pub size : size_of j ≡ len x
  pub fits : size_of j < 2 ^ 63
  pub index : IsOptionalIndex j (len y)
  pub valid : IsValid y
  pub items : (i : ℕ) → i < len x → array_item x i ≡ at_option (option_place_at j i) (array_item y)
  -- the content's items are those that are present
  pub column : array_items y ≡ present_values (array_items x)

-- the items of all arrays at a place
abbrev pub across : List Layout → ℕ → Values
across [] i = no_values
across (y ∷ ys) i = value (array_item y i) (across ys i)

-- the item of the k-th array
abbrev pub item_among : List Layout → ℕ → ℕ → Value
item_among [] k i = null
item_among (y ∷ ys) zero i = array_item y i
item_among (y ∷ ys) (suc k) i = item_among ys k i

pub record OpensRow (names : Option (List Name)) (ys : List Layout) (x : Layout) : Type 0 where
  pub typ : array_type x ≡ row_type names (types_from (map array_type ys))
  pub are_names : AreNames names (count (layouts_from ys))
  pub fits : len x < 2 ^ 63
  pub lens : AreLong (len x) ys
  pub valid : AllValid (layouts_from ys)
  pub items : (i : ℕ) → i < len x → array_item x i ≡ row (across ys i)
  pub columns : AreParts 0 (array_items x) ys

pub record OpensUnion (t j : Column) (ys : List Layout) (x : Layout) : Type 0 where
  pub typ : array_type x ≡ uni (types_from (map array_type ys))
  pub size : size_of t ≡ len x
  pub fits : size_of t < 2 ^ 63
  pub union : IsUnion t j (layouts_from ys)
  pub valid : AllValid (layouts_from ys)
  pub items : (i : ℕ) → i < len x → array_item x i
      ≡ alt (place_at t i) (item_among ys (place_at t i) (place_at j i))
  pub columns : AreAlternatives 0 (array_items x) ys

pub record OpensLeaf (c : Column) (x : Layout) : Type 0 where
  pub typ : array_type x ≡ leaf (primitive_of c.kind)

pub record OpensNothing (x : Layout) : Type 0 where
  pub typ : array_type x ≡ unknown
  pub none : len x ≡ 0

-- what an array is opened into
abbrev pub Opens : Layout → Opened → Type 0
Opens x Empty = OpensNothing x
Opens x (Leaf c) = OpensLeaf c x
Opens x (Items l) = OpensLists l.class l.starts l.stops l.content x
Opens x (Row names ys) = OpensRow names ys x
Opens x (Optional j y) = OpensOption j y x
Opens x (Union t j ys) = OpensUnion t j ys x
