-- Edges moved into the range of numbers, for which they stay the same.
use Rattle.std.specs.Prelude.{◌≡◌, ℕ, ◌<◌, ◌≤◌, ℤ, pos, ◌≤ℤ◌, int_le, int_lt, nat_lt, true}
use Rattle.std.specs.Prelude.{List, length, get_or, Option, Some, None}
use Rattle.awk_bins.specs.Tallies.{edges_up_to}

-- an edge as one of the numbers from a least to a greatest: those that reach it stay, and none is
-- told of an edge that none of them reaches
abbrev pub IsNear : ℤ → ℤ → ℤ → Option ℤ → Type 0
IsNear least most e None = int_lt most e ≡ true
IsNear least most e (Some k) = (z : ℤ) → least ≤ℤ z → z ≤ℤ most → int_le k z ≡ int_le e z

-- the first edges as such numbers: a number reaches one of them if it reaches the edge there, and
-- no edge after them
pub record AreNear (least most : ℤ) (es ks : List ℤ) : Type 0 where
  pub all : (z : ℤ) → least ≤ℤ z → z ≤ℤ most → edges_up_to es z ≤ length ks
  pub reached : (z : ℤ) (k : ℕ) → least ≤ℤ z → z ≤ℤ most → k < length ks
      → int_le (get_or ks k (pos 0)) z ≡ nat_lt k (edges_up_to es z)
