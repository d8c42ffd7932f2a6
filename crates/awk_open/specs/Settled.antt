-- Alternatives with nulls among them, as a union and an index into it.
use Rattle.std.specs.Prelude.{◌≡◌, ℕ, ◌<◌, ◌≤◌, ◌^◌, ℤ, pos, negsuc, ◌≤ℤ◌, ◌<ℤ◌, Option, Some, None}
use Rattle.std.specs.Prelude.{List, length, map}
use Rattle.awk_types.specs.Simple.{union_of}
use Rattle.awk_lanes.specs.declared.kind.Kind.TheVariants.{I64}
use Rattle.awk_lanes.specs.Column.{Column}
use Rattle.awk_lanes.specs.Places.{size_of, at, place_at, option_place_at, IsOptionalIndex}
use Rattle.awk_layout.specs.Layout.{Layout, layouts_from}
use Rattle.awk_layout.specs.Valid.{len, IsValid, AllValid}
use Rattle.awk_layout.specs.Item.{at_option}
use Rattle.awk_layout.specs.Typing.{array_type}
use Rattle.awk_gather.specs.Arrays.{array_item}
use Rattle.awk_spread.specs.Spread.{Fits, or_else, spread_of}

-- the tag where the place is not negative, else another
abbrev pub settled_tag : Column → Column → ℕ → ℕ → ℤ
settled_tag t k d j = or_else (at k j) (at t j) (pos d)

-- the place where it is not negative, else another
abbrev pub settled_place : Column → ℤ → ℕ → ℤ
settled_place k e j = or_else (at k j) (at k j) e

-- where the place is not negative, its own place
abbrev pub settled_index : Column → ℕ → ℤ
settled_index k j = or_else (at k j) (pos j) (negsuc 0)

-- a place where the number is not negative; where there is none, each is negative
abbrev pub IsPresentAt : Column → Option ℕ → Type 0
IsPresentAt k (Some d) = (d < size_of k) × (pos 0 ≤ℤ at k d)
IsPresentAt k None = (j : ℕ) → j < size_of k → at k j <ℤ pos 0

-- each tag below 128 where the place is not negative
abbrev pub AreTags : Column → Column → Type 0
AreTags t k = (j : ℕ) → j < size_of k → pos 0 ≤ℤ at k j → (pos 0 ≤ℤ at t j) × (place_at t j < 128)

-- tags and places of some of at most 127 alternatives
pub record CanUnite (t k : Column) (ys : List Layout) : Type 0 where
  pub tag_kind : t.kind ≡ I64
  pub index_kind : k.kind ≡ I64
  pub same_size : size_of t ≡ size_of k
  pub small : size_of k < 2 ^ 63
  pub fits : (j : ℕ) → j < size_of k → Fits ys (at t j) (at k j)
  pub some : 0 < length ys
  pub few : length ys ≤ 127

-- y is a union of the alternatives, and i an index of an option into it
pub record IsSettled (t k : Column) (ys : List Layout) (i : Column) (y : Layout) : Type 0 where
  pub size : size_of i ≡ size_of k
  pub index : IsOptionalIndex i (len y)
  pub typ : array_type y ≡ union_of (map array_type ys)
  pub contents : IsValid y → AllValid (layouts_from ys)
  pub items : (j : ℕ) → j < size_of k →
      at_option (option_place_at i j) (array_item y)
      ≡ at_option (option_place_at k j) (spread_of ys (place_at t j))
