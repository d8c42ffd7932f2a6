-- Running sums over a window of numbers.
use Rattle.std.specs.Prelude.{◌≡◌, ℕ, ◌<◌, ◌≤◌, ℤ, pos, List, get_or, length, take, drop}
use Rattle.awk_kernels.specs.Kernels.{total}
use Rattle.awk_parts.specs.declared.windows.RunningSums.{RunningSums}

-- each of the first n sums is that of so many of the numbers
abbrev pub AreSums : List ℤ → ℕ → List ℤ → Type 0
AreSums zs n sums = (k : ℕ) → k < n → get_or sums k (pos 0) ≡ total (take k zs)

-- sums of the numbers from a place on
pub record AreRunning (zs : List ℤ) (w : RunningSums) : Type 0 where
  pub room : w.count ≤ length w.sums.items
  pub sums : AreSums (drop w.first zs) w.count w.sums.items
