-- What the numbers of lanes are read as.
use Rattle.std.specs.Prelude.{ℕ, ℤ, pos, ◌≤ℤ◌, List, get_or}
use Rattle.awk_lanes.specs.Ranges.{IsNumber}
use Rattle.awk_lanes.specs.declared.kind.Kind.{Kind}
use Rattle.awk_lanes.specs.declared.kind.Kind.TheVariants.{Bool as Truths}

-- a number in the range of a kind, a truth value as 0 or 1
abbrev pub IsElement : Kind → ℤ → Type 0
IsElement Truths z = (pos 0 ≤ℤ z) × (z ≤ℤ pos 1)
IsElement k z = IsNumber k z

-- each of the numbers
abbrev pub AreElements : Kind → List ℤ → Type 0
AreElements k zs = (i : ℕ) → IsElement k (get_or zs i (pos 0))
