use Rattle.std.proofs.Common.{◌≡◌, ◌≤◌, ◌+◌, drop, length}
use Rattle.awk_edge.specs.Units.{raw_limit}
use Rattle.awk_framing.specs.Framing.{total}
use Rattle.awk_framing.proofs.need.total_of.Given as goal

-- so many bytes together with those of the parts to come are all
abbrev pub invariant-loop-i : goal.invariant-loop-i
invariant-loop-i l = record {
  sum : l.sum + total (drop l.i l.parts) ≡ total l.parts;
  most : l.sum ≤ raw_limit;
  counted : l.i-end ≡ length l.parts;
}
