-- How many raw bytes are needed behind a line.
use Rattle.std.specs.Prelude.{◌≡◌, ◌<◌, ◌≤◌, ℕ, Result, Ok, Err}
use Rattle.awk_edge.specs.Units.{raw_limit}
use Rattle.awk_framing.specs.declared.need.RawEnd.{RawEnd}
use Rattle.awk_framing.specs.declared.need.RawEnd.TheVariants.{TooMany, NoMemory}

-- as many as are asked for, or they are more than there may be
abbrev pub Needs : ℕ → Result ℕ RawEnd → Type 0
Needs asked (Ok n) = (n ≡ asked) × (n ≤ raw_limit)
Needs asked (Err TooMany) = raw_limit < asked
Needs asked (Err NoMemory) = Unit {0}
