-- The lists of an array that hold an item. Null holds none.
use Rattle.std.specs.Prelude.{◌≡◌, ℕ, ◌+◌, ◌<◌, ◌≤◌, ◌^◌, nat_lt, cond, Bool, List, [], ◌∷◌}
use Rattle.std.specs.Prelude.{length, take, filter, pos}
use Rattle.awk_types.specs.Simple.{present}
use Rattle.awk_types.specs.Value.{Value}
use Rattle.awk_lanes.specs.Column.{Column}
use Rattle.awk_lanes.specs.Places.{size_of, at, IsIndexKind, AreSpans}
use Rattle.awk_lanes.specs.declared.kind.Kind.TheVariants.{I64}
use Rattle.awk_layout.specs.Layout.{Layout}
use Rattle.awk_layout.specs.Valid.{len, IsValid}
use Rattle.awk_layout.specs.Typing.{array_type, array_items}
use Rattle.awk_gather.specs.Arrays.{array_item}
use Rattle.awk_columns.specs.Columns.{list_items}
use Rattle.awk_counts.specs.Counted.{first_of}
use Rattle.awk_lanes.specs.Made.{lane_of}
use Rattle.awk_list_ends.specs.Ends.{span_length}

abbrev pub holds_item : Value → Bool
holds_item v = nat_lt 0 (length (list_items v))

-- those that hold an item
abbrev pub held_lists : List Value → List Value
held_lists vs = filter holds_item vs

-- the place i, where list i holds an item
abbrev pub held_at : Column → Column → ℕ → List ℕ
held_at s t i = cond (nat_lt 0 (span_length s t i)) (i ∷ []) []

-- how many of the first lists hold an item
abbrev pub held_counts : Column → Column → Column
held_counts s t = lane_of I64 (size_of s + 1) (λ i. pos (length (first_of (held_at s t) i)))

-- starts and stops as far apart as the lists of an array are long
pub record AreLengths (x : Layout) (s t : Column) : Type 0 where
  pub spans : AreSpans s t 9223372036854775807
  pub fits : size_of s < 2 ^ 63
  pub size : size_of s ≡ len x
  pub lengths : (i : ℕ) → i < len x → length (list_items (array_item x i)) ≡ span_length s t i

-- the lists of an array that hold an item, and how many of its first items are among them
pub record AreHeld (x : Layout) (c : Column) (z : Layout) : Type 0 where
  pub typ : array_type z ≡ present (array_type x)
  pub valid : IsValid z
  pub column : array_items z ≡ held_lists (array_items x)
  pub kind : IsIndexKind c.kind
  pub size : size_of c ≡ len x + 1
  pub counts : (i : ℕ) → i ≤ len x
      → at c i ≡ pos (length (held_lists (take i (array_items x))))
