-- Parts of a list brought in order where they lie.
use Rattle.std.specs.Prelude.{◌≡◌, ℕ, ◌+◌, ◌<◌, ◌≤◌, ℤ, Bool, List, map}
use Rattle.std.specs.List.{slice_range}
use Rattle.std.specs.List.Sorted.{IsPermutation}
use Rattle.awk_lanes.specs.Column.{Column}
use Rattle.awk_lanes.specs.Places.{place_at}
use Rattle.awk_sorting.specs.Order.{sort_numbers}

-- what a list holds from a start below a stop comes in order by its numbers, and the rest stays
pub record SortsPart {X : Type 0} (number : X → ℤ) (up : Bool) (start stop : ℕ)
    (xs ys : List X) : Type 0 where
  pub same : IsPermutation xs ys
  pub below : (a b : ℕ) → b ≤ start → slice_range ys a b ≡ slice_range xs a b
  pub above : (a b : ℕ) → stop ≤ a → slice_range ys a b ≡ slice_range xs a b
  pub part : map number (slice_range ys start stop)
      ≡ sort_numbers up (map number (slice_range xs start stop))

-- the numbers of what part i holds
abbrev pub numbers_at : {X : Type 0} → (X → ℤ) → Column → List X → ℕ → List ℤ
numbers_at number o xs i = map number (slice_range xs (place_at o i) (place_at o (i + 1)))

-- the same for each of the first n parts, one after another
pub record SortsParts {X : Type 0} (number : X → ℤ) (up : Bool) (o : Column) (n : ℕ)
    (xs ys : List X) : Type 0 where
  pub same : IsPermutation xs ys
  pub parts : (i : ℕ) → i < n
      → numbers_at number o ys i ≡ sort_numbers up (numbers_at number o xs i)
  pub rest : (a b : ℕ) → place_at o n ≤ a → slice_range ys a b ≡ slice_range xs a b
