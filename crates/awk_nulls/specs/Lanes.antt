-- Lanes that are made of lists by their starts and stops, and of the indexes of options.
use Rattle.std.specs.Prelude.{◌≡◌, ℕ, ◌+◌, ◌-◌, ◌==◌, ◌<◌, ◌≤◌, length, take, ℤ, pos}
use Rattle.std.specs.Prelude.{negsuc, Option, Some, None, if◌then◌else◌}
use Rattle.awk_types.specs.DataType.{var}
use Rattle.awk_types.specs.Predicates.{is_null}
use Rattle.awk_types.specs.Simple.{present}
use Rattle.awk_types.specs.Value.{truth}
use Rattle.awk_lanes.specs.Column.{Column}
use Rattle.awk_lanes.specs.Places.{size_of, at, option_place_at, IsIndexKind}
use Rattle.awk_lanes.specs.Places.{IsOptionKind}
use Rattle.awk_lanes.specs.declared.kind.Kind.TheVariants.{Bool as Truths, I64}
use Rattle.awk_layout.specs.Layout.{Layout, flat}
use Rattle.awk_layout.specs.Valid.{len, IsValid}
use Rattle.awk_layout.specs.Typing.{array_type, array_items}
use Rattle.awk_gather.specs.Arrays.{array_item}
use Rattle.awk_lanes.specs.Counted.{before, AreOffsetsOf}
use Rattle.awk_lanes.specs.Made.{lane_of}
use Rattle.awk_lanes.specs.declared.counted.Offsets.{Offsets}
use Rattle.awk_columns.specs.Columns.{present_values}
pub use Rattle.awk_columns.specs.Lists.{span_length}
use Rattle.awk_list_ends.specs.Ends.{numbers_at_ends}
use Rattle.awk_list_ends.specs.Filling.{AreFull}
use Rattle.awk_counts.specs.Counted.{first_of, present_at}
use Rattle.awk_counts.specs.Present.{present_lane}
use Rattle.awk_nulls.specs.declared.ends.Ends.{Ends}
use Rattle.awk_nulls.specs.Singletons.{single_list}

-- ---- nulls

-- 1 for null, as a truth value lies in a lane
abbrev pub null_number : Option ℕ → ℤ
null_number None = pos 1
null_number (Some k) = pos 0

abbrev pub nulls_lane : Column → Column
nulls_lane j = lane_of Truths (size_of j) (λ i. null_number (option_place_at j i))

-- n times false
abbrev pub falses_lane : ℕ → Column
falses_lane n = lane_of Truths n (λ i. pos 0)

-- a truth value for each item of an array: whether it is null
pub record AreNulls (x : Layout) (c : Column) : Type 0 where
  pub kind : c.kind ≡ Truths
  pub size : size_of c ≡ len x
  pub nulls : (i : ℕ) → i < len x → array_item (flat c) i ≡ truth (is_null (array_item x i))

-- ---- first items

-- where the first item of each list is, and -1 where it has none
abbrev pub firsts_lane : Column → Column → Column
firsts_lane s t =
    lane_of I64 (size_of s) (λ i. if span_length s t i == 0 then negsuc 0 else at s i)

-- ---- items that are present

-- the present items of an array, and how many of its first items are among them
pub record ArePresent (x : Layout) (c : Column) (z : Layout) : Type 0 where
  pub typ : array_type z ≡ present (array_type x)
  pub valid : IsValid z
  pub column : array_items z ≡ present_values (array_items x)
  pub kind : IsIndexKind c.kind
  pub size : size_of c ≡ len x + 1
  pub counts : (i : ℕ) → i ≤ len x
      → at c i ≡ pos (length (present_values (take i (array_items x))))

-- the same by the index of an option, which is negative for null
pub record HasPresent (x : Layout) (j : Column) (z : Layout) : Type 0 where
  pub kind : IsOptionKind j.kind
  pub present : ArePresent x (present_lane j) z

-- where lists begin and end among items of which counts tell how many stand before each place
abbrev pub AreEnds : Column → Column → Column → Ends → Type 0
AreEnds c s t e =
    (e.starts ≡ numbers_at_ends c s t s) × (e.stops ≡ numbers_at_ends c s t t)

-- how many of the first k items are present
abbrev pub present_before : Column → ℕ → ℕ
present_before j k = length (first_of (present_at j) k)

-- how many items of list i are present, of lists that fill what an index is of
abbrev pub row_count : Column → Column → Column → ℕ → ℕ
row_count j s t i =
    present_before j (before (span_length s t) (i + 1))
    - present_before j (before (span_length s t) i)

-- the offsets of such lists among the items that are present
pub record AreRowOffsets (j s t : Column) (o : Offsets) : Type 0 where
  pub full : AreFull s t (size_of j)
  pub offsets : AreOffsetsOf (row_count j s t) (size_of s) o

-- a list of at most one for each item of an array
pub record AreSingles (x w : Layout) : Type 0 where
  pub valid : IsValid w
  pub size : len w ≡ len x
  pub typ : array_type w ≡ var (present (array_type x))
  pub items : (i : ℕ) → i < len x → array_item w i ≡ single_list (array_item x i)
