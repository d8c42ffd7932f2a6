-- Leaves of which some may be null, as a lane of numbers and a way there.
use Rattle.std.specs.Prelude.{◌≡◌, ℕ, ◌<◌, length, Option, Some}
use Rattle.awk_lanes.specs.Column.{Column}
use Rattle.awk_lanes.specs.Places.{size_of, at, option_place_at}
use Rattle.awk_layout.specs.Item.{leaf_value, at_option}
use Rattle.awk_layout.specs.Kinds.{kind_of}
use Rattle.awk_layout.specs.Layout.{Layout}
use Rattle.awk_layout.specs.Typing.{array_type}
use Rattle.awk_layout.specs.Valid.{len}
use Rattle.awk_gather.specs.Arrays.{array_item}
use Rattle.awk_present.specs.Numbers.{leaf_of}
use Rattle.awk_nullable.specs.Masks.{byte_place, bit_place}
use Rattle.awk_nullable.specs.Numbers.{AreLeading}
use Rattle.awk_nullable_lists.specs.declared.opening.Nullable.{Nullable}
use Rattle.awk_nullable_lists.specs.declared.opening.Nullable.TheVariants.{Indexed, Narrow, Bytes}
use Rattle.awk_nullable_lists.specs.declared.opening.Nullable.TheVariants.{Bits, Unmasked}

-- the n items of an array of leaves, null or with their numbers in a lane
pub record AreLeaves (y : Layout) (f : ℕ → Option ℕ) (n : ℕ) (c : Column) : Type 0 where
  pub size : n ≡ len y
  pub kind : c.kind ≡ kind_of (leaf_of (array_type y))
  pub leads : AreLeading f n (size_of c)
  pub items : (i : ℕ) → i < n
      → array_item y i ≡ at_option (f i) (λ k. leaf_value c.kind (at c k))

-- by an index, by a mask, or all of them
abbrev pub IsNullable : Layout → Nullable → Type 0
IsNullable y (Indexed j c) = AreLeaves y (option_place_at j) (size_of j) c
IsNullable y (Narrow j c) = AreLeaves y (option_place_at j) (size_of j) c
IsNullable y (Bytes m c) = AreLeaves y (byte_place m.bytes.now m.valid_when) (length m.bytes.now) c
IsNullable y (Bits m c) = AreLeaves y (bit_place m.bits m.valid_when) (length m.bits) c
IsNullable y (Unmasked m c) = AreLeaves y (λ i. Some i) m.count c
