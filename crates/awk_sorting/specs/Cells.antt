-- Numbers of a lane, or at the places of it that an index names, and keys in whose order they
-- stand.
use Rattle.std.specs.Prelude.{◌≡◌, ℕ, ◌+◌, ◌-◌, ◌*◌, ◌%◌, ◌<◌, ◌≤◌, ◌^◌, ℤ, pos}
use Rattle.std.specs.Prelude.{negsuc, ◌+ℤ◌, ◌-ℤ◌, ◌≤ℤ◌, Bool, true, false}
use Rattle.std.specs.Prelude.{List, map, Option, Some, None, option_map}
use Rattle.std.specs.List.{range_with_len}
use Rattle.awk_lanes.specs.Column.{Column}
use Rattle.awk_lanes.specs.Numbers.{nat_of}
use Rattle.awk_lanes.specs.Places.{size_of, at, place_at, option_place_at, IsOptionalIndex}
use Rattle.awk_lanes.specs.declared.kind.Kind.TheVariants.{I64}
use Rattle.awk_numbers.specs.Folds.{lane_numbers}
use Rattle.awk_parts.specs.Parts.{AreRising, part_at}
use Rattle.awk_sorting.specs.Order.{order}

-- the number of a cell, none where the index, if there is one, is negative
abbrev pub cell_at : Column → Option Column → ℕ → Option ℤ
cell_at c None i = Some (at c i)
cell_at c (Some j) i = option_map (at c) (option_place_at j i)

-- n cells
abbrev pub AreCells : Column → Option Column → ℕ → Type 0
AreCells c None n = n ≡ size_of c
AreCells c (Some j) n = IsOptionalIndex j (size_of c) × (n ≡ size_of j)

-- n cells from a start on
abbrev pub cells_from : Column → Option Column → ℕ → ℕ → List (Option ℤ)
cells_from c j start n = map (λ k. cell_at c j (start + k)) (range_with_len 0 n)

-- those of part i
abbrev pub cells_of_part : Column → Option Column → Column → ℕ → List (Option ℤ)
cells_of_part c j o i = cells_from c j (place_at o i) (place_at o (i + 1) - place_at o i)

-- a number of 64 bits, or none
abbrev pub IsNear : Option ℤ → Type 0
IsNear None = Unit {0}
IsNear (Some z) = (negsuc 9223372036854775807 ≤ℤ z) × (z ≤ℤ pos 18446744073709551615)

-- ---- keys

-- a number of 64 bits as one above 0, rising with it or falling
abbrev pub rank : Bool → ℤ → ℕ
rank true z = nat_of (pos 36893488147419103232 +ℤ z)
rank false z = nat_of (pos 36893488147419103232 -ℤ z)

-- a cell's number, if it has one, is of 64 bits, and its rank from the least on and below the last
abbrev pub IsRanked : Bool → ℕ → ℕ → Option ℤ → Type 0
IsRanked up least last None = Unit {0}
IsRanked up least last (Some z) =
    IsNear (Some z) × (least ≤ rank up z) × (rank up z < last)

-- so do the first n cells
pub record AreRanked (up : Bool) (c : Column) (j : Option Column) (n least last : ℕ)
    : Type 0 where
  pub ranked : (i : ℕ) → i < n → IsRanked up least last (cell_at c j i)

-- how far a cell's rank is above the least, where none has the last one
abbrev pub height : Bool → ℕ → ℕ → Option ℤ → ℕ
height up least last None = last - least
height up least last (Some z) = rank up z - least

-- of a cell at a place below 2 ^ 32
abbrev pub key : Bool → ℕ → ℕ → Option ℤ → ℕ → ℤ
key up least last o p = pos (height up least last o * 4294967296 + p)

-- of n cells from a start on, each with its place among them
abbrev pub keys_from : Bool → ℕ → ℕ → Column → Option Column → ℕ → ℕ → List ℤ
keys_from up least last c j start n =
    map (λ k. key up least last (cell_at c j (start + k)) k) (range_with_len 0 n)

-- the place that a key tells
abbrev pub place_of : ℤ → ℤ
place_of z = pos (nat_of z % 4294967296)

-- cells in n parts, one after another from the first on
pub record AreReady (c : Column) (j : Option Column) (o : Column) (n : ℕ) : Type 0 where
  pub cells : AreCells c j (place_at o n)
  pub rising : AreRising o n (place_at o n)
  pub first : place_at o 0 ≡ 0
  pub few : place_at o n ≤ 1073741824
  pub fits : n < 2 ^ 63

-- a lane with the places of each part in the order of its cells
pub record OrdersLane (up : Bool) (c : Column) (j : Option Column) (o : Column) (n : ℕ)
    (r : Column) : Type 0 where
  pub kind : r.kind ≡ I64
  pub size : size_of r ≡ place_at o n
  pub parts : (i : ℕ) → i < n
      → part_at (lane_numbers r) o i ≡ map pos (order up (cells_of_part c j o i))
