use Rattle.std.proofs.Common.{◌≡◌, take}
use Rattle.awk_zip.proofs.rows.nodes_of.Given as goal

abbrev pub invariant-loop-i : goal.invariant-loop-i
invariant-loop-i l = l.nodes ≡ take l.i l.columns
