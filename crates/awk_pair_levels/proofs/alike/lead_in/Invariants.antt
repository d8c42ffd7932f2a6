use Rattle.std.proofs.Common.{◌≡◌, true, drop}
use Rattle.std.specs.List.{list_any}
use Rattle.awk_pair_levels.specs.Shares.{is_lists}
use Rattle.awk_pair_levels.proofs.alike.lead_in.Given as goal

abbrev pub invariant-loop-i : goal.invariant-loop-i
invariant-loop-i l = list_any is_lists (drop l.i l.shares) ≡ true
