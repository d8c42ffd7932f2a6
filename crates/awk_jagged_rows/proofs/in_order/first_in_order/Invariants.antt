use Rattle.awk_jagged_rows.proofs.OrderLaws.{AreInOrder}
use Rattle.awk_jagged_rows.proofs.in_order.first_in_order.Given as goal

-- the lists before this place lie in order
abbrev pub invariant-loop-i : goal.invariant-loop-i
invariant-loop-i g l = AreInOrder l.lists l.i l.first l.count
