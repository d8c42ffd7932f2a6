-- Numbers in parts, one after another, by offsets.
use Rattle.std.specs.Prelude.{◌≡◌, ℕ, ◌+◌, ◌<◌, ◌≤◌, ℤ, pos, ◌≤ℤ◌, List, length}
use Rattle.std.specs.List.{slice_range}
use Rattle.awk_lanes.specs.Column.{Column}
use Rattle.awk_lanes.specs.Places.{size_of, at, place_at, IsIndexKind}

-- offsets of n parts, one after another, of m numbers
pub record AreRising (o : Column) (n m : ℕ) : Type 0 where
  pub kind : IsIndexKind o.kind
  pub size : size_of o ≡ n + 1
  pub positive : (i : ℕ) → i ≤ n → pos 0 ≤ℤ at o i
  pub ordered : (i : ℕ) → i < n → place_at o i ≤ place_at o (i + 1)
  pub within : (i : ℕ) → i ≤ n → place_at o i ≤ m

-- numbers, not too many, in n parts
pub record AreParts (zs : List ℤ) (o : Column) (n : ℕ) : Type 0 where
  pub rising : AreRising o n (length zs)
  pub few : length zs ≤ 1073741824

-- part i
abbrev pub part_at : List ℤ → Column → ℕ → List ℤ
part_at zs o i = slice_range zs (place_at o i) (place_at o (i + 1))
