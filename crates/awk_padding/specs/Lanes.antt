-- Padded lists: their lanes of places, and what is made of them.
use Rattle.std.specs.Prelude.{◌≡◌, ℕ, ◌+◌, ◌<◌, nat_lt, Bool, ℤ, pos, negsuc, if◌then◌else◌}
use Rattle.awk_types.specs.DataType.{opt}
use Rattle.awk_lanes.specs.Column.{Column}
use Rattle.awk_lanes.specs.Counted.{items_lane, offsets_by}
use Rattle.awk_lanes.specs.Places.{size_of, place_at}
use Rattle.awk_lanes.specs.declared.kind.Kind.TheVariants.{I64}
use Rattle.awk_layout.specs.Layout.{Layout}
use Rattle.awk_layout.specs.Typing.{array_type}
use Rattle.awk_columns.specs.Lists.{span_length}
use Rattle.awk_list_functions.specs.Made.{AreGiven}
use Rattle.awk_list_ends.specs.Filling.{AreFull}
use Rattle.awk_padding.specs.PadNone.{padded, padded_class, padded_length}

-- how long list i becomes
abbrev pub padded_span : ℕ → Bool → Column → Column → ℕ → ℕ
padded_span n clip s t i = padded_length n clip (span_length s t i)

-- the place of item k of list i, and -1 past its end
abbrev pub padded_place : Column → Column → ℕ → ℕ → ℤ
padded_place s t i k = if nat_lt k (span_length s t i) then pos (place_at s i + k) else negsuc 0

abbrev pub padded_lane : ℕ → Bool → Column → Column → Column
padded_lane n clip s t =
    items_lane I64 (padded_span n clip s t) (padded_place s t) (size_of s)

-- the items of lists with nulls at their end, by the offsets of these
abbrev pub ArePadded : ℕ → Bool → Column → Column → Layout → Layout → Type 0
ArePadded n clip s t y z =
    AreGiven (padded_class n clip) (opt (array_type y)) (λ vs. padded n clip vs) s t y
    (offsets_by (padded_span n clip s t) (size_of s)) z

-- lists of which none is padded and none is cut, and which fill so many items
pub record AreUnpadded (n : ℕ) (clip : Bool) (s t : Column) (whole : ℕ) : Type 0 where
  pub full : AreFull s t whole
  pub lengths : (i : ℕ) → i < size_of s → padded_span n clip s t i ≡ span_length s t i
