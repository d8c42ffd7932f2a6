-- The items of lists that are not null, as numbers.
use Rattle.std.specs.Prelude.{◌≡◌, ℕ, ◌+◌, ◌<◌, ◌≤◌, ℤ, List, length, map, take, position}
use Rattle.std.specs.Prelude.{Option, Some, None}
use Rattle.std.specs.List.{slice_range, count_by, range_with_len}
use Rattle.std.specs.Ordering.{int_eq}
use Rattle.awk_types.specs.Value.{Value}
use Rattle.awk_lanes.specs.Column.{Column}
use Rattle.awk_lanes.specs.Places.{size_of, at, place_at}
use Rattle.awk_layout.specs.Layout.{Layout}
use Rattle.awk_layout.specs.Item.{leaf_value}
use Rattle.awk_layout.specs.Kinds.{kind_of}
use Rattle.awk_layout.specs.Typing.{array_type, array_items}
use Rattle.awk_columns.specs.Columns.{present_values}
use Rattle.awk_numbers.specs.Folds.{lane_numbers}
use Rattle.awk_numbers.specs.Places.{is_place, nth_place}
use Rattle.awk_parts.specs.Parts.{AreRising, part_at}
use Rattle.awk_present.specs.Numbers.{leaf_of, numbers, number_place}
use Rattle.awk_present.specs.declared.present.Present.{Present}

-- a lane of all items of an array of leaves
pub record AreLeaves (x : Layout) (c : Column) : Type 0 where
  pub kind : c.kind ≡ kind_of (leaf_of (array_type x))
  pub items : array_items x ≡ map (λ i. leaf_value c.kind (at c i)) (range_with_len 0 (size_of c))

-- the items of list i
abbrev pub list_at : List Value → Column → ℕ → List Value
list_at vs o i = slice_range vs (place_at o i) (place_at o (i + 1))

-- ---- an index, whose number for an item is negative where this is null

-- how many items of list i are present
abbrev pub present_in : List ℤ → Column → ℕ → ℕ
present_in js o i = count_by is_place (part_at js o i)

-- the numbers of a lane at places
abbrev pub taken_lane : Column → List ℕ → Column
taken_lane c ks = record { kind = c.kind; items = map (at c) ks }

-- how many items before offset i are present
abbrev pub present_before : List Value → Column → ℕ → ℕ
present_before vs o i = length (present_values (take (place_at o i) vs))

-- ---- numbers of the items that are present

-- where a number stands among those of its list leads to where it stands in the list
abbrev pub LeadsBack : List Value → Column → Option Column → ℕ → ℤ → ℕ → Type 0
LeadsBack vs o None i z q = number_place (list_at vs o i) z ≡ Some q
LeadsBack vs o (Some j) i z q = (k : ℕ)
    × (number_place (list_at vs o i) z ≡ Some k)
    × (nth_place q (part_at (lane_numbers j) o i) ≡ Some k)

-- what the index, if any, is: it is as long as there are items
abbrev pub IsIndexOf : List Value → Option Column → Type 0
IsIndexOf vs None = Unit {0}
IsIndexOf vs (Some j) = size_of j ≡ length vs

-- of the items of n lists, by offsets into these
pub record ArePresent (x : Layout) (o : Column) (n : ℕ) (p : Present) : Type 0 where
  pub kind : p.lane.kind ≡ kind_of (leaf_of (array_type x))
  pub rising : AreRising p.offsets n (size_of p.lane)
  pub few : size_of p.lane ≤ length (array_items x)
  pub parts : (i : ℕ) → i < n
      → part_at (lane_numbers p.lane) p.offsets i ≡ numbers (list_at (array_items x) o i)
  pub index : IsIndexOf (array_items x) p.index
  pub places : (i q : ℕ) (z : ℤ) → i < n
      → position (int_eq z) (part_at (lane_numbers p.lane) p.offsets i) ≡ Some q
      → LeadsBack (array_items x) o p.index i z q
