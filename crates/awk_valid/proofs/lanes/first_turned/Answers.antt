-- The lane that is made has the first numbers of the bytes.
use Rattle.std.proofs.Common.{arith, true}
use Rattle.awk_valid.proofs.LaneLaws.{first_numbers-some}
use Rattle.awk_valid.proofs.lanes.first_turned.Goals as goal

pub returns : goal.returns
returns c =
    first_numbers-some true c.args.kind c.args.n c.args.bytes.now
    c.in_ok-numbers_turned.field-0
    (omega (arith, c.width.ensures.value, c.width.ensures.positive))
    (rw c.width.ensures.value at c.if-bytes-size.false)
    (rw c.width.ensures.value at c.in_ok-numbers_turned.ensures)
