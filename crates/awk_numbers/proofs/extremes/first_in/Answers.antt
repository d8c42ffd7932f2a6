use Rattle.std.proofs.Common.{arith}
use Rattle.awk_numbers.proofs.ExtremeLaws.{first_found}
use Rattle.awk_numbers.proofs.extremes.first_in.Goals as goal

pub returns : goal.returns
returns g c =
    first_found c.args.how (g.R.Row.numbers c.args.row.now) c.loop-i.i c.loop-i.place _
    (omega (arith, c.loop-i-test.false, c.len-i-end.ensures)) c.loop-i.invariant
