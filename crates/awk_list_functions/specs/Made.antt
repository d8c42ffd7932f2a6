-- What is made of a column of lists: the items of each by a function, as items of a type.
use Rattle.std.specs.Prelude.{◌≡◌, ℕ, ◌+◌, ◌-◌, ◌*◌, ◌<◌, ◌≤◌, ◌^◌, List, map}
use Rattle.std.specs.Prelude.{Some, None}
use Rattle.awk_types.specs.DataType.{DataType}
use Rattle.awk_types.specs.Value.{Value, value_list}
use Rattle.awk_types.specs.Simple.{simple, simple_value}
use Rattle.awk_lanes.specs.Column.{Column}
use Rattle.awk_lanes.specs.Counted.{offsets_by}
use Rattle.awk_lanes.specs.Places.{size_of, place_at, AreSpans}
use Rattle.awk_layout.specs.Layout.{Layout}
use Rattle.awk_layout.specs.Valid.{len, IsValid}
use Rattle.awk_layout.specs.Item.{run}
use Rattle.awk_layout.specs.Typing.{array_type}
use Rattle.awk_columns.specs.ListClass.{Class}
use Rattle.awk_columns.specs.ListNode.{AreEven}
use Rattle.awk_list_functions.specs.ListFunction.{Giving, lists, singles, ListFunction}
use Rattle.awk_list_functions.specs.ListFunction.{given_class}
use Rattle.awk_columns.specs.Lists.{items_at, all_items_at}
use Rattle.awk_gather.specs.Arrays.{array_item}
use Rattle.awk_columns.specs.Joined.{AreOffsets}
use Rattle.awk_list_functions.specs.declared.function.Made.{Made}
use Rattle.awk_list_functions.specs.declared.function.Made.TheVariants as made

-- y has n items, which are the values at the places, as items of a type
pub record IsColumn (t : DataType) (value : ℕ → Value) (n : ℕ) (y : Layout) : Type 0 where
  pub valid : IsValid y
  pub size : len y ≡ n
  pub typ : array_type y ≡ simple t
  pub items : (i : ℕ) → i < n → array_item y i ≡ simple_value t (value i)

-- y is x with each item by a function
abbrev pub IsMapped : DataType → (Value → Value) → Layout → Layout → Type 0
IsMapped t g x y = IsColumn t (λ i. g (array_item x i)) (len x) y

-- ---- one column of lists

-- offsets and contents whose lists are given for the lists of a column
pub record AreGiven (class : Class) (t : DataType) (items : List Value → List Value)
    (s e : Column) (y : Layout) (o : Column) (z : Layout) : Type 0 where
  pub valid : IsValid z
  pub offsets : AreOffsets o (size_of s) (len z)
  pub even : AreEven class o (size_of s)
  pub typ : array_type z ≡ simple t
  pub lists : (i : ℕ) → i < size_of s
      → value_list (run (array_item z) (place_at o i) (place_at o (i + 1) - place_at o i))
      ≡ map (simple_value t) (items (items_at s e y i))

-- what a function makes of a column of lists
abbrev pub GivesLists : Giving → Class → Column → Column → Layout → Column → Layout → Type 0
GivesLists (lists class typ items) c s e y o z =
    AreGiven (class c) (typ (array_type y)) (items (array_type y)) s e y o z
GivesLists (singles typ value) c s e y o z = ⊥

abbrev pub GivesSingles : Giving → Column → Column → Layout → Layout → Type 0
GivesSingles (lists class typ items) s e y z = ⊥
GivesSingles (singles typ value) s e y z =
    IsColumn (typ (array_type y)) (λ i. value (array_type y) (items_at s e y i)) (size_of s) z

-- starts and stops in a content, whose lists are given for the lists of a column
pub record AreSpanned (t : DataType) (items : List Value → List Value) (s e : Column) (y : Layout)
    (a b : Column) (z : Layout) : Type 0 where
  pub valid : IsValid z
  pub fits : size_of a < 2 ^ 63
  pub size : size_of a ≡ size_of s
  pub spans : AreSpans a b (len z)
  pub typ : array_type z ≡ simple t
  pub lists : (i : ℕ) → i < size_of s → items_at a b z i
      ≡ map (simple_value t) (items (items_at s e y i))

-- lists of any length
abbrev pub IsUnsized : Class → Type 0
IsUnsized None = Unit {0}
IsUnsized (Some m) = ⊥

abbrev pub GivesSpans : Giving → Class → Column → Column → Layout → Column → Column → Layout
    → Type 0
GivesSpans (lists class typ items) c s e y a b z =
    IsUnsized (class c) × AreSpanned (typ (array_type y)) (items (array_type y)) s e y a b z
GivesSpans (singles typ value) c s e y a b z = ⊥

-- lists of a sized class
abbrev pub IsSized : Class → Type 0
IsSized None = ⊥
IsSized (Some m) = Unit {0}

-- n lists of a sized class within a list of m items
abbrev pub IsSizedWithin : Class → ℕ → ℕ → Type 0
IsSizedWithin None n m = ⊥
IsSizedWithin (Some size) n m = n * size ≤ m

-- the offsets of n such lists, one after another
abbrev pub even_offsets : Class → ℕ → Column
even_offsets None n = offsets_by (λ i. 0) n
even_offsets (Some m) n = offsets_by (λ i. m) n

abbrev pub IsMade : ListFunction → Class → Column → Column → Layout → Made → Type 0
IsMade f c s e y (made.Spoiled why) = f.spoil (array_type y) (all_items_at s e y) ≡ Some why
IsMade f c s e y (made.Lists o z) =
    (f.spoil (array_type y) (all_items_at s e y) ≡ None) × GivesLists f.giving c s e y o z
IsMade f c s e y (made.Even z) =
    (f.spoil (array_type y) (all_items_at s e y) ≡ None)
    × IsSized (given_class f.giving c)
    × GivesLists f.giving c s e y (even_offsets (given_class f.giving c) (size_of s)) z
IsMade f c s e y (made.Spans a b z) =
    (f.spoil (array_type y) (all_items_at s e y) ≡ None) × GivesSpans f.giving c s e y a b z
IsMade f c s e y (made.Singles z) =
    (f.spoil (array_type y) (all_items_at s e y) ≡ None) × GivesSingles f.giving s e y z
