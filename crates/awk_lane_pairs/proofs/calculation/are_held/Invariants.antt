use Rattle.std.proofs.Common.{◌≡◌, length, IsTrue}
use Rattle.awk_lane_pairs.specs.Results.{AreHeld}
use Rattle.awk_lane_pairs.proofs.calculation.are_held.Given as goal

abbrev pub invariant-loop-i : goal.invariant-loop-i
invariant-loop-i g l = record {
  end : l.i-end ≡ length l.a;
  held : IsTrue l.held → AreHeld g.O.Exact.op g.N.Narrow.prim l.a l.b l.i;
}
