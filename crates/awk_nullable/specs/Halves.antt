-- Numbers in two halves.
use Rattle.std.specs.Prelude.{◌≡◌, ℕ, ◌+◌, ◌*◌, ◌≤◌, ℤ, pos, ◌+ℤ◌, ◌*ℤ◌, unsigned_abs, List}
use Rattle.awk_kernels.specs.Kernels.{total}
use Rattle.awk_nullable.specs.declared.halves.Halves.{Halves}

-- the number of two halves
abbrev pub halves_sum : Halves → ℤ
halves_sum h = h.low +ℤ h.high *ℤ pos 4294967296

-- a number by two halves, neither far from 0
pub record IsHalves (z : ℤ) (h : Halves) : Type 0 where
  pub whole : halves_sum h ≡ z
  pub high : unsigned_abs h.high ≤ 4294967296
  pub low : unsigned_abs h.low ≤ 4294967296

-- the sum of numbers, of n items, each of two such halves, by the sums of these
pub record IsSum (n : ℕ) (h : Halves) (zs : List ℤ) : Type 0 where
  pub exact : halves_sum h ≡ total zs
  pub high : unsigned_abs h.high ≤ (n + 1) * 4294967296
  pub low : unsigned_abs h.low ≤ (n + 1) * 4294967296
