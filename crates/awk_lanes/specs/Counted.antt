-- Lists one after another, each by its length: their offsets, and a number for each item.
use Rattle.std.specs.Prelude.{◌≡◌, ℕ, zero, suc, ◌+◌, ◌<◌, ◌≤◌, List, [], ◌++◌, map, ℤ, pos}
use Rattle.std.specs.Prelude.{Option, Some, None}
use Rattle.std.specs.List.{range_with_len}
use Rattle.awk_lanes.specs.declared.kind.Kind.{Kind}
use Rattle.awk_lanes.specs.declared.kind.Kind.TheVariants.{I64}
use Rattle.awk_lanes.specs.Column.{Column}
use Rattle.awk_lanes.specs.Made.{lane_of}
use Rattle.awk_lanes.specs.declared.counted.Offsets.{Offsets}

-- how many items the first i lists have together, each by its length
abbrev pub before : (ℕ → ℕ) → ℕ → ℕ
before m zero = 0
before m (suc i) = before m i + m i

-- where each of n lists begins, and where the last ends
abbrev pub offsets_by : (ℕ → ℕ) → ℕ → Column
offsets_by m n = lane_of I64 (n + 1) (λ i. pos (before m i))

-- so many numbers for each of the first i lists, one list after another
abbrev pub numbers_of_lists : (ℕ → ℕ) → (ℕ → ℕ → ℤ) → ℕ → List ℤ
numbers_of_lists m h zero = []
numbers_of_lists m h (suc i) = numbers_of_lists m h i ++ map (h i) (range_with_len 0 (m i))

abbrev pub items_lane : Kind → (ℕ → ℕ) → (ℕ → ℕ → ℤ) → ℕ → Column
items_lane kind m h n = record { kind = kind; items = numbers_of_lists m h n }

-- the offsets of n lists, and how many items they have together
abbrev pub AreOffsetsOf : (ℕ → ℕ) → ℕ → Offsets → Type 0
AreOffsetsOf m n o = (o.total ≡ before m n) × (o.lane ≡ offsets_by m n)

-- the offsets of n lists, or none where they have more items than the limit
abbrev pub AreOffsetsBy : ℕ → (ℕ → ℕ) → ℕ → Option Offsets → Type 0
AreOffsetsBy limit m n None = limit < before m n
AreOffsetsBy limit m n (Some o) =
    (o.total ≡ before m n) × (before m n ≤ limit) × (o.lane ≡ offsets_by m n)
