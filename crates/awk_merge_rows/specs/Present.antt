-- Columns without their nulls: an index into all present items.
use Rattle.std.specs.Prelude.{◌≡◌, false, ℕ, ◌+◌, ℤ, pos, negsuc, ◌<ℤ◌, Option, Some, None}
use Rattle.std.specs.Prelude.{List, [], ◌∷◌, ◌++◌, length, map}
use Rattle.std.specs.List.{AllByRecursion, range_with_len}
use Rattle.awk_types.specs.DataType.{DataType, opt}
use Rattle.awk_types.specs.Simple.{is_option}
use Rattle.awk_lanes.specs.Column.{Column}
use Rattle.awk_lanes.specs.Making.{Making}
use Rattle.awk_lanes.specs.Places.{size_of, option_place_at}
use Rattle.awk_gather.specs.Arrays.{pick}
use Rattle.awk_merge_sides.specs.Sides.{Side, merged_items, AreSides}

-- n places from a first one on
abbrev pub places_on : ℕ → ℕ → List ℤ
places_on first n = map (λ i. pos (first + i)) (range_with_len 0 n)

-- a place so many further on, and -1 for none
abbrev pub moved : ℕ → Option ℕ → ℤ
moved n (Some k) = pos (n + k)
moved n None = negsuc 0

-- the places of an index so many further on
abbrev pub index_on : ℕ → Column → List ℤ
index_on first j = map (λ i. moved first (option_place_at j i)) (range_with_len 0 (size_of j))

-- the columns of what is present in some columns, and the index into all its items
pub record ArePresent (ss present : List Side) (zs : List ℤ) : Type 0 where
  pub sides : (u : DataType) → is_option u ≡ false → AreSides (opt u) ss → AreSides u present
  pub below : AllByRecursion (λ z. z <ℤ pos (length (merged_items present))) zs
  pub items : merged_items ss ≡ pick (merged_items present) zs

-- one column more
pub record IsPresentPut (s : Side) (before : List Side) (old : Making) (after : List Side)
    (new : Making) : Type 0 where
  pub kind : new.kind ≡ old.kind
  pub room : new.room ≡ old.room
  pub more : (ss : List Side) → ArePresent ss before old.items
      → ArePresent (ss ++ s ∷ []) after new.items
