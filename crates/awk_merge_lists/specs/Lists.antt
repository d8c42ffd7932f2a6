-- Columns of lists, one at a time: where their lists lie, and what is put behind the lists before.
use Rattle.std.specs.Prelude.{◌≡◌, ◌+◌, ◌-◌, ◌*◌, ◌<◌, ◌≤◌, ℕ, ℤ, min, pos, List, length, map, Some}
use Rattle.std.specs.List.{range_with_len}
use Rattle.awk_types.specs.Value.{list}
use Rattle.awk_lanes.specs.Column.{Column}
use Rattle.awk_lanes.specs.Making.{Making, with_items}
use Rattle.awk_lanes.specs.Places.{size_of, place_at, AreSpans}
use Rattle.awk_lanes.specs.declared.kind.Kind.TheVariants.{I64}
use Rattle.awk_layout.specs.Item.{run}
use Rattle.awk_layout.specs.Layout.{Layout}
use Rattle.awk_layout.specs.Typing.{array_type}
use Rattle.awk_layout.specs.Valid.{len}
use Rattle.awk_gather.specs.Arrays.{array_item}
use Rattle.awk_columns.specs.Columns.{list_items}
use Rattle.awk_columns.specs.ListClass.{Class, list_type}
use Rattle.awk_unify.specs.Carry.{Carry}
use Rattle.awk_merge_sides.specs.Lifts.{items_carry}
use Rattle.awk_merge_sides.specs.Sides.{sides_of, merged_items, with_side, IsCounted}
use Rattle.awk_merge_lists.specs.declared.lists.ListMaker.{ListMaker}

-- lists of a class whose items are of the content's type; of lists of length 0 there are none
pub record AreListsOver (x y : Layout) : Type 0 where
  pub class : Class
  pub typ : array_type x ≡ list_type class (array_type y)
  pub none : class ≡ Some 0 → len y ≡ 0

-- the lists of a column lie from starts to stops in a content
pub record HoldsLists (x : Layout) (s t : Column) (y : Layout) : Type 0 where
  pub over : AreListsOver x y
  pub spans : AreSpans s t (len y)
  pub size : size_of s ≡ len x
  pub items : (i : ℕ) → i < len x → array_item x i
      ≡ list (run (array_item y) (place_at s i) (place_at t i - place_at s i))

-- each list of a column has n items
abbrev pub AreOfLength : ℕ → Layout → Type 0
AreOfLength n x = (i : ℕ) → i < len x → length (list_items (array_item x i)) ≡ n

-- the lists of a column, of n items each, lie one after another and fill a content
pub record HoldsItems (n : ℕ) (x y : Layout) : Type 0 where
  pub over : AreListsOver x y
  pub size : len y ≡ len x * n
  pub items : (i : ℕ) → i < len x → array_item x i ≡ list (run (array_item y) (i * n) n)

-- places of n items, where these stand behind others
abbrev pub moved_place : ℕ → ℕ → Column → ℕ → ℤ
moved_place base n c i = pos (base + min (place_at c i) n)

abbrev pub moved_places : ℕ → ℕ → Column → List ℤ
moved_places base n c = map (moved_place base n c) (range_with_len 0 (size_of c))

-- a lane of places that is being made, with room for so many more
pub record HasRoom (n : ℕ) (m : Making) : Type 0 where
  pub kind : m.kind ≡ I64
  pub room : length m.items + n ≤ m.room

-- the lists of a column behind those before, and their items as a further column
pub record PutsLists (x : Layout) (f : Carry) (before now : ListMaker) : Type 0 where
  pub from : Column
  pub to : Column
  pub content : Layout
  pub lists : HoldsLists x from to content
  pub starts : now.starts ≡ with_items before.starts
      (moved_places (length (merged_items (sides_of before.sides))) (len content) from)
  pub stops : now.stops ≡ with_items before.stops
      (moved_places (length (merged_items (sides_of before.sides))) (len content) to)
  pub sides : sides_of now.sides ≡ with_side (sides_of before.sides) content (items_carry f)
  pub counted : IsCounted now.sides
