use Rattle.std.proofs.Common.{◌≡◌, ℕ, ◌+◌, ◌<◌, ◌≤◌, get_or, map}
use Rattle.std.specs.Prelude.{pos, ◌-ℤ◌}
use Rattle.awk_lanes.specs.Numbers.{nat_of}
use Rattle.awk_bins.proofs.even.are_apart.Given as goal

abbrev pub invariant-loop-i : goal.invariant-loop-i
invariant-loop-i g l = record {
  some : 1 ≤ l.i;
  steps : (k : ℕ) → k + 1 < l.i
      → nat_of (get_or (map g.N.Number.number l.near) (k + 1) (pos 0)
      -ℤ get_or (map g.N.Number.number l.near) k (pos 0)) ≡ l.step;
}
