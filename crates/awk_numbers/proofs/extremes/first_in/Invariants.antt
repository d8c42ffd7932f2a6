use Rattle.awk_numbers.proofs.ExtremeLaws.{IsFirst}
use Rattle.awk_numbers.proofs.extremes.first_in.Given as goal

abbrev pub invariant-loop-i : goal.invariant-loop-i
invariant-loop-i g l = IsFirst l.how (g.R.Row.numbers l.row) l.i l.place l.best
