-- What is picked of a content at places.
use Rattle.std.specs.Prelude.{◌≡◌, ℕ, ◌<◌, ◌≤◌, ℤ, Bool, false, List, length, Option, Some, None}
use Rattle.std.specs.Prelude.{if◌then◌else◌}
use Rattle.std.specs.List.{range_with_len, flat_map}
use Rattle.awk_types.specs.DataType.{opt}
use Rattle.awk_types.specs.ItemLimit.{item_limit}
use Rattle.awk_types.specs.Simple.{simple}
use Rattle.awk_lanes.specs.Column.{Column}
use Rattle.awk_lanes.specs.Counted.{before, offsets_by}
use Rattle.awk_lanes.specs.Places.{IsIndex, IsOptionalIndex}
use Rattle.awk_lanes.specs.declared.kind.Kind.TheVariants.{I64}
use Rattle.awk_layout.specs.Layout.{Layout}
use Rattle.awk_layout.specs.Typing.{array_type, array_items}
use Rattle.awk_layout.specs.Valid.{IsValid}
use Rattle.awk_gather.specs.Arrays.{pick}
use Rattle.awk_jagged.specs.declared.leaves.Outcome.{Outcome}
use Rattle.awk_jagged.specs.declared.leaves.Outcome.TheVariants as outcome
use Rattle.awk_jagged.specs.declared.leaves.Places.{Places}

-- the numbers of the first n lists as a lane, and where those of each begin
pub record ArePlaces (numbers : ℕ → List ℤ) (n : ℕ) (p : Places) : Type 0 where
  pub few : before (λ i. length (numbers i)) n ≤ item_limit
  pub offsets : p.offsets ≡ offsets_by (λ i. length (numbers i)) n
  pub lane : p.lane ≡ record { kind = I64; items = flat_map numbers (range_with_len 0 n) }

abbrev pub ArePlacesOr : (ℕ → List ℤ) → ℕ → Option Places → Type 0
ArePlacesOr numbers n None = item_limit < before (λ i. length (numbers i)) n
ArePlacesOr numbers n (Some p) = ArePlaces numbers n p

-- items at places, of which some are null where a type is optional
pub record ArePicked (optional : Bool) (x : Layout) (p : Column) (y : Layout) : Type 0 where
  pub valid : IsValid y
  pub typ : array_type y ≡ (if optional then simple (opt (array_type x)) else array_type x)
  pub items : array_items y ≡ pick (array_items x) p.items

-- a lane of places of n items, of which some are null where a type is optional
pub record AreWithin (optional : Bool) (n : ℕ) (p : Column) : Type 0 where
  pub kind : p.kind ≡ I64
  pub places : IsOptionalIndex p n
  pub present : optional ≡ false → IsIndex p n

abbrev pub AreWithinOr : Bool → ℕ → Option Places → Type 0
AreWithinOr optional n None = Unit {0}
AreWithinOr optional n (Some p) = AreWithin optional n p.lane

-- the items at places, or that these are too many
abbrev pub IsPickedAt : Bool → Layout → Option Places → Outcome → Type 0
IsPickedAt optional x None outcome.TooMany = Unit {0}
IsPickedAt optional x (Some p) (outcome.Lists o y) =
    (o ≡ p.offsets) × ArePicked optional x p.lane y
IsPickedAt optional x places o = ⊥
