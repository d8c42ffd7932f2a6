-- Places as the groups of eight bytes that they lie in.
use Rattle.std.specs.Prelude.{◌≡◌, ℕ, List, map}
use Rattle.awk_lanes.specs.Groups.{groups_of}
use Rattle.awk_lanes.specs.Numbers.{number, nat_of}
use Rattle.awk_lanes.specs.Ranges.{AreNumbers}
use Rattle.awk_lanes.specs.Words.{column, integers}
use Rattle.awk_lanes.specs.declared.kind.Kind.TheVariants.{I64}

-- the place that a group is
abbrev pub place_in : List ℕ → ℕ
place_in b = nat_of (number I64 b)

-- the groups are those of places
abbrev pub AreGroups : List (List ℕ) → Type 0
AreGroups gs = (gs ≡ groups_of (map (number I64) gs))
    × AreNumbers (column I64 (map (number I64) gs))
    × (integers (map place_in gs) ≡ map (number I64) gs)
