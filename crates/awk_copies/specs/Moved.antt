-- Bits in bytes of eight.
use Rattle.std.specs.Prelude.{ℕ, ◌+◌, ◌*◌, Bool, false, List, get_or, if◌then◌else◌}

abbrev pub one_if : Bool → ℕ
one_if b = if b then 1 else 0

-- eight bits in a byte, the most significant first; those past the end are not set
abbrev pub eight : List Bool → ℕ → ℕ
eight bs i =
    16 * (8 * one_if (get_or bs i false) + 4 * one_if (get_or bs (i + 1) false)
    + 2 * one_if (get_or bs (i + 2) false) + one_if (get_or bs (i + 3) false))
    + (8 * one_if (get_or bs (i + 4) false) + 4 * one_if (get_or bs (i + 5) false)
    + 2 * one_if (get_or bs (i + 6) false) + one_if (get_or bs (i + 7) false))
