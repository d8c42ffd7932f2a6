use Rattle.std.proofs.Common.{take, drop}
use Rattle.awk_open.specs.Opened.{AreLong}
use Rattle.awk_pair_levels.specs.Shares.{AreShares}
use Rattle.awk_pair_levels.proofs.shares.shares_of.Given as goal

abbrev pub invariant-loop-i : goal.invariant-loop-i
invariant-loop-i g l = record {
  long : AreLong l.n (drop l.i l.xs);
  made : AreShares l.n l.keep l.some (take l.i l.xs) l.shares.items;
}
