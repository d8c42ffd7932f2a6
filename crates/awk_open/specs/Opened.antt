-- The outermost kind of an array.
use Rattle.std.specs.Prelude.{◌≡◌, ℕ, ◌<◌, List, [], ◌∷◌, map, None}
use Rattle.awk_types.specs.DataType.{DataType, unknown, leaf, opt, uni, row_type, types_from}
use Rattle.awk_types.specs.Limit.{limit}
use Rattle.awk_types.specs.Value.{Value, null, row, alt, values_from}
use Rattle.awk_lanes.specs.Column.{Column}
use Rattle.awk_lanes.specs.Places.{size_of, at, place_at, option_place_at, IsIndex}
use Rattle.awk_layout.specs.Layout.{Layout, layouts_from, empty, flat, lists, rows, optional, union}
use Rattle.awk_layout.specs.Valid.{len, IsValid}
use Rattle.awk_layout.specs.Item.{leaf_value, at_option}
use Rattle.awk_layout.specs.Place.{nth}
use Rattle.awk_layout.specs.Kinds.{primitive_of}
use Rattle.awk_layout.specs.Typing.{array_type}
use Rattle.awk_gather.specs.Arrays.{array_item}
use Rattle.awk_gather.specs.Picked.{IsPicked}
use Rattle.awk_columns.specs.ListClass.{list_type}
use Rattle.awk_columns.specs.Lists.{AreOfClass}
use Rattle.awk_columns.specs.ListValues.{list_at}
use Rattle.awk_open.specs.declared.opening.Opened.{Opened}
use Rattle.awk_open.specs.declared.opening.Opened.TheVariants.{Empty, Leaf, Items, Row}
use Rattle.awk_open.specs.declared.opening.Opened.TheVariants.{Option as Optional, Union}

-- the type is of the kind, and its parts are the types of the contents
abbrev pub IsKindOf : DataType → Opened → Type 0
IsKindOf t Empty = t ≡ unknown
IsKindOf t (Leaf c) = t ≡ leaf (primitive_of c.kind)
IsKindOf t (Items l) = t ≡ list_type l.class (array_type l.content)
IsKindOf t (Row names ys) = t ≡ row_type names (types_from (map array_type ys))
IsKindOf t (Optional j y) = t ≡ opt (array_type y)
IsKindOf t (Union k j ys) = t ≡ uni (types_from (map array_type ys))

-- the item at a place, by the lanes and the items of the contents
abbrev pub opened_item : Opened → ℕ → Value
opened_item Empty i = null
opened_item (Leaf c) i = leaf_value c.kind (at c i)
opened_item (Items l) i = list_at l.starts l.stops l.content i
opened_item (Row names ys) i = row (values_from (map (λ y. array_item y i) ys))
opened_item (Optional j y) i = at_option (option_place_at j i) (array_item y)
opened_item (Union t j ys) i =
    alt (place_at t i) (array_item (nth (layouts_from ys) (place_at t i)) (place_at j i))

-- the layout of n items with these lanes and contents
abbrev pub opened_layout : ℕ → Opened → Layout
opened_layout n Empty = empty
opened_layout n (Leaf c) = flat c
opened_layout n (Items l) = lists l.starts l.stops l.content
opened_layout n (Row names ys) = rows names n (layouts_from ys)
opened_layout n (Optional j y) = optional j y
opened_layout n (Union t j ys) = union t j (layouts_from ys)

-- each has n items
abbrev pub AreLong : ℕ → List Layout → Type 0
AreLong n [] = Unit {0}
AreLong n (y ∷ ys) = (len y ≡ n) × AreLong n ys

-- the columns of rows have an item for each row, and lists of a sized class have this length
abbrev pub HasLengths : ℕ → Opened → Type 0
HasLengths n (Row names ys) = AreLong n ys
HasLengths n (Items l) = AreOfClass l.class l.starts l.stops
HasLengths n Empty = Unit {0}
HasLengths n (Leaf c) = Unit {0}
HasLengths n (Optional j y) = Unit {0}
HasLengths n (Union t j ys) = Unit {0}

-- the kind of x, with lanes and contents in which its items are
pub record IsOpened (x : Layout) (r : Opened) : Type 0 where
  pub kind : IsKindOf (array_type x) r
  pub size : len (opened_layout (len x) r) ≡ len x
  pub valid : IsValid (opened_layout (len x) r)
  pub lengths : HasLengths (len x) r
  pub items : (i : ℕ) → i < len x → array_item x i ≡ opened_item r i

-- the same, of the items of x at places
pub record IsOpenedAt (x : Layout) (p : Column) (r : Opened) : Type 0 where
  pub kind : IsKindOf (array_type x) r
  pub size : len (opened_layout (size_of p) r) ≡ size_of p
  pub valid : IsValid (opened_layout (size_of p) r)
  pub lengths : HasLengths (size_of p) r
  pub items : (j : ℕ) → j < size_of p → array_item x (place_at p j) ≡ opened_item r j

-- each of these at places
abbrev pub ArePicked : List Layout → Column → List Layout → Type 0
ArePicked [] p [] = Unit {0}
ArePicked (x ∷ xs) p (r ∷ rs) = (IsPicked x p r × IsValid r) × ArePicked xs p rs
ArePicked [] p (r ∷ rs) = ⊥
ArePicked (x ∷ xs) p [] = ⊥

-- places of each
abbrev pub AreAllPlaces : Column → List Layout → Type 0
AreAllPlaces p [] = Unit {0}
AreAllPlaces p (x ∷ xs) = IsIndex p (len x) × AreAllPlaces p xs

-- the type of each passes no limit
abbrev pub AreWithin : List Layout → Type 0
AreWithin [] = Unit {0}
AreWithin (x ∷ xs) = (limit (array_type x) ≡ None) × AreWithin xs
