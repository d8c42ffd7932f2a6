use Rattle.std.proofs.Common.{◌≡◌, drop}
use Rattle.std.specs.List.{list_all}
use Rattle.awk_pair_levels.specs.Shares.{is_plain}
use Rattle.awk_pair_levels.proofs.alike.all_plain.Given as goal

abbrev pub invariant-loop-i : goal.invariant-loop-i
invariant-loop-i l = list_all is_plain (drop l.i l.shares) ≡ list_all is_plain l.shares
