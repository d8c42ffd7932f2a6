use Rattle.std.proofs.Common.{◌≡◌, None}
use Rattle.awk_view.specs.Choice.{row_names}
use Rattle.awk_view.proofs.choice.decimals.Given as goal

abbrev pub invariant-loop-i : goal.invariant-loop-i
invariant-loop-i l = l.made ≡ row_names None l.i-counter
