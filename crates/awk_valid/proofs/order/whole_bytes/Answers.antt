-- A number of one byte is the same in both orders.
use Rattle.awk_valid.proofs.OrderLaws.{numbers-one_byte}
use Rattle.awk_valid.proofs.order.whole_bytes.Goals as goal

pub returns-clause-numbers : goal.returns-clause-numbers
returns-clause-numbers c = numbers-one_byte c.args.kind _ c.args.bytes.now c.requires
