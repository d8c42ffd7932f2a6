-- Edges that lie a step apart.
use Rattle.std.specs.Prelude.{◌≡◌, ℕ, ◌+◌, ◌*◌, ◌<◌, ℤ, pos, ◌+ℤ◌, ◌-ℤ◌, List, length, get_or}
use Rattle.awk_lanes.specs.Numbers.{nat_of}

-- each from the second on is a step above the one before, or none above it where the step is 0
abbrev pub AreSteps : ℕ → List ℤ → Type 0
AreSteps step ks =
    (k : ℕ) → k + 1 < length ks
    → nat_of (get_or ks (k + 1) (pos 0) -ℤ get_or ks k (pos 0)) ≡ step

-- each a step above the one before, the first above a base
abbrev pub AreApart : ℤ → ℕ → List ℤ → Type 0
AreApart base step ks =
    (k : ℕ) → k < length ks → get_or ks k (pos 0) ≡ base +ℤ pos ((k + 1) * step)

-- by a step that leads on
pub record AreEven (base : ℤ) (step : ℕ) (ks : List ℤ) : Type 0 where
  pub some : 0 < step
  pub apart : AreApart base step ks
