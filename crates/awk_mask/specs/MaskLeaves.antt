-- Arrays where masks of single truth values are over them, by place.
use Rattle.std.specs.Prelude.{◌≡◌, ℕ, ◌<◌, ◌^◌, ℤ, Bool, false, List, Option, Some, None}
use Rattle.awk_lanes.specs.Column.{Column}
use Rattle.awk_lanes.specs.Made.{lane_of}
use Rattle.awk_lanes.specs.Numbers.{is_nonzero}
use Rattle.awk_types.specs.Simple.{simple, simple_value}
use Rattle.awk_types.specs.Value.{Value, truth}
use Rattle.awk_lanes.specs.Places.{size_of, at, option_place_at}
use Rattle.awk_lanes.specs.Words.{column, integers}
use Rattle.awk_lanes.specs.declared.kind.Kind.TheVariants as kinds
use Rattle.awk_layout.specs.Item.{leaf_value, agrees}
use Rattle.awk_layout.specs.Layout.{Layout, empty, flat, regular, lists, offset_lists, rows}
use Rattle.awk_layout.specs.Layout.{indexed, optional, byte_masked, bit_masked, unmasked, union}
use Rattle.awk_layout.specs.Typing.{array_type}
use Rattle.awk_gather.specs.Arrays.{array_item}
use Rattle.awk_gather.specs.Peeled.{if_shown, IsBare}
use Rattle.awk_layout.specs.Valid.{len, IsValid}
use Rattle.awk_mask_pairs.specs.MaskValues.{masked_type, masked_value}

-- the items of a mask as a lane
pub record AreTruths (m : Layout) (c : Column) : Type 0 where
  pub kind : c.kind ≡ kinds.Bool
  pub size : size_of c ≡ len m
  pub fits : size_of c < 2 ^ 63
  pub items : (i : ℕ) → i < len m → array_item m i ≡ leaf_value c.kind (at c i)

-- the truth values that bytes are
abbrev pub truths_in : List ℕ → Column
truths_in bytes = column kinds.Bool (integers bytes)

-- its own place where a truth value is the one that is kept, and -1 elsewhere
abbrev pub kept_place : Column → Bool → ℕ → ℤ
kept_place c keep i = if_shown (agrees keep (is_nonzero (at c i))) i

abbrev pub kept_lane : Column → Bool → Column
kept_lane c keep = lane_of kinds.I64 (size_of c) (kept_place c keep)

-- whether a truth value that may be null is the one that is kept
abbrev pub is_there : Column → Bool → Option ℕ → Bool
is_there c keep None = false
is_there c keep (Some k) = agrees keep (is_nonzero (at c k))

-- the same of an index into truth values, with nulls
abbrev pub there_place : Column → Column → Bool → ℕ → ℤ
there_place j c keep i = if_shown (is_there c keep (option_place_at j i)) i

abbrev pub there_lane : Column → Column → Bool → Column
there_lane j c keep = lane_of kinds.I64 (size_of j) (there_place j c keep)

-- whether an item of a mask is the truth value that is kept
abbrev pub is_kept : Bool → Value → Bool
is_kept keep (truth b) = agrees keep b
is_kept keep v = false

-- the places of a mask that are kept, each as its own place, and -1 elsewhere
pub record AreKept (m : Layout) (keep : Bool) (p : Column) : Type 0 where
  pub kind : p.kind ≡ kinds.I64
  pub size : size_of p ≡ len m
  pub places : (i : ℕ) → i < len m → at p i ≡ if_shown (is_kept keep (array_item m i)) i

-- r has the items of x, each by the item of the mask at its place
pub record IsMasked (x m : Layout) (keep : Bool) (r : Layout) : Type 0 where
  pub valid : IsValid r
  pub size : len r ≡ len x
  pub typ : array_type r ≡ simple (masked_type (array_type m) (array_type x))
  pub items : (i : ℕ) → i < len x
      → array_item r i ≡ simple_value (masked_type (array_type m) (array_type x))
      (masked_value (array_type m) keep (array_item m i) (array_item x i))

-- one option over what is neither an option nor an index: by an index, or by the bytes of a mask
abbrev pub IsLow : Layout → Type 0
IsLow (optional j x) = IsBare x
IsLow (byte_masked m v x) = IsBare x
IsLow empty = ⊥
IsLow (flat c) = ⊥
IsLow (regular size n x) = ⊥
IsLow (lists s t x) = ⊥
IsLow (offset_lists o x) = ⊥
IsLow (rows names n xs) = ⊥
IsLow (indexed j x) = ⊥
IsLow (bit_masked m v x) = ⊥
IsLow (unmasked n x) = ⊥
IsLow (union t j xs) = ⊥
