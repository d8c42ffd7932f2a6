-- Lists whose items are lists themselves: how many items these have together.
use Rattle.std.specs.Prelude.{◌≡◌, ℕ, ◌-◌, ◌<◌, ◌≤◌, ◌^◌, Option, Some, None}
use Rattle.awk_types.specs.ItemLimit.{item_limit}
use Rattle.awk_lanes.specs.Column.{Column}
use Rattle.awk_lanes.specs.Counted.{before}
use Rattle.awk_lanes.specs.Places.{size_of, place_at}
use Rattle.awk_list_ends.specs.declared.inside.Inside.{Inside}

-- how many items the lists that are the items of list i have together: m is the length of each
abbrev pub length_inside : (ℕ → ℕ) → Column → Column → ℕ → ℕ
length_inside m s t i = before m (place_at t i) - before m (place_at s i)

-- how many items the lists inside lists have together: a list counts as often as it is reached
abbrev pub total_inside : (ℕ → ℕ) → Column → Column → ℕ
total_inside m s t = before (length_inside m s t) (size_of s)

-- so many items, or none where they are more than a column may have
abbrev pub IsTotalOf : ℕ → Option ℕ → Type 0
IsTotalOf n None = item_limit < n
IsTotalOf n (Some w) = (w ≡ n) × (w ≤ item_limit)

-- the items of the n lists that lie inside lists, and those that are reached; or none where those
-- that lie there are too many to count
abbrev pub AreInside : (ℕ → ℕ) → ℕ → Column → Column → Option Inside → Type 0
AreInside m n s t None = 2 ^ 63 ≤ before m n
AreInside m n s t (Some r) =
    (r.stored ≡ before m n) × IsTotalOf (total_inside m s t) r.reached
