-- The flag that a comparison of two numbers writes.
use Rattle.std.specs.Prelude.{ℕ, ℤ, cond, int_lt}
use Rattle.std.specs.Ordering.{int_eq}

-- one of three: where the first number is less, where both are equal, and where it is greater
abbrev pub flag : ℕ → ℕ → ℕ → ℤ → ℤ → ℕ
flag less equal greater x y = cond (int_lt x y) less (cond (int_eq x y) equal greater)
