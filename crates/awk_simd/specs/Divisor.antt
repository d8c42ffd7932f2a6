-- A divisor and how often it goes into the numbers of a u64.
use Rattle.std.specs.Prelude.{ℕ, suc, ◌*◌, ◌<◌, ◌≤◌}
use Rattle.awk_simd.specs.declared.division.Divisor.{Divisor}

pub record IsDivisor (d : Divisor) : Type 0 where
  pub some : 0 < d.number
  pub low : d.share * d.number ≤ 18446744073709551615
  pub high : 18446744073709551615 < suc d.share * d.number
