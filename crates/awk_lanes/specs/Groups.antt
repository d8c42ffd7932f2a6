-- Numbers as the groups of bytes that they lie in.
use Rattle.std.specs.Prelude.{ℕ, List, map, ℤ}
use Rattle.std.specs.Int.{cast_unsigned, w64}
use Rattle.awk_lanes.specs.Words.{low_bytes}

-- the lowest bytes of each number
abbrev pub groups_by : ℕ → List ℤ → List (List ℕ)
groups_by w zs = map (λ z. low_bytes w (cast_unsigned w64 z)) zs

-- the eight bytes of each number
abbrev pub groups_of : List ℤ → List (List ℕ)
groups_of zs = groups_by 8 zs
