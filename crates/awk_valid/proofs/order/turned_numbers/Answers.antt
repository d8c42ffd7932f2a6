-- The groups that are turned are read as the numbers.
use Rattle.awk_valid.proofs.OrderLaws.{numbers-turned_bytes}
use Rattle.awk_valid.proofs.order.turned_numbers.Goals as goal

pub returns-clause-numbers : goal.returns-clause-numbers
returns-clause-numbers g c =
    numbers-turned_bytes c.args.kind g.row.W c.args.bytes.now c.in_ok-turned.turned.now
    c.requires.wide
    c.in_ok-turned.ensures.bytes
