use Rattle.awk_numbers.proofs.PlaceLaws.{IsLeft}
use Rattle.awk_numbers.proofs.places.nth_in.Given as goal

abbrev pub invariant-loop-i : goal.invariant-loop-i
invariant-loop-i g l = IsLeft l.before l.left (g.R.Row.numbers l.row) l.i
