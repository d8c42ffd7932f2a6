-- Numbers of lanes that are moved as the groups of bytes that they lie in.
use Rattle.std.specs.Prelude.{ℕ, ◌+◌, ◌<◌, List, [], map, get_or, length, ℤ, pos, ◌≤ℤ◌}
use Rattle.std.specs.Int.{to_le_bytes, w32}
use Rattle.std.specs.List.{range_with_len}
use Rattle.awk_lanes.specs.declared.kind.Kind.TheVariants.{I64}
use Rattle.awk_lanes.specs.Column.{Column}
use Rattle.awk_lanes.specs.Numbers.{number, nat_of}
use Rattle.awk_lanes.specs.Places.{size_of, at, place_at}
use Rattle.awk_lanes.specs.Made.{lane_of}

-- the numbers so far past those at places
abbrev pub past : ℕ → Column → Column → Column
past d c p = lane_of c.kind (size_of p) (λ i. at c (place_at p i + d))

-- the number that eight bytes are
abbrev pub eight : List ℕ → ℤ
eight b = number I64 b

-- the group so far past the one at place i of places
abbrev pub group_past : ℕ → List (List ℕ) → List (List ℕ) → ℕ → List ℕ
group_past d gs ps i = get_or gs (nat_of (eight (get_or ps i [])) + d) []

abbrev pub groups_past : ℕ → List (List ℕ) → List (List ℕ) → List (List ℕ)
groups_past d gs ps = map (group_past d gs ps) (range_with_len 0 (length ps))

-- each is a place, and so far past it is one of n
abbrev pub ArePlacesPast : ℕ → ℕ → List (List ℕ) → Type 0
ArePlacesPast d n ps =
    (i : ℕ) → i < length ps →
    (pos 0 ≤ℤ eight (get_or ps i [])) × (nat_of (eight (get_or ps i [])) + d < n)

-- the place at i of places, in four bytes
abbrev pub narrow_group : List (List ℕ) → ℕ → List ℕ
narrow_group ps i = to_le_bytes w32 (nat_of (eight (get_or ps i [])))

abbrev pub narrow_groups : List (List ℕ) → List (List ℕ)
narrow_groups ps = map (narrow_group ps) (range_with_len 0 (length ps))
