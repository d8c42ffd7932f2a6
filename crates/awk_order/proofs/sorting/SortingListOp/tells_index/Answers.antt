use Rattle.awk_order.specs.Order.{items_in_order}
use Rattle.awk_order.proofs.ListLaws.{lists_never}
use Rattle.awk_order.proofs.sorting.SortingListOp.tells_index.Goals as goal

pub returns : goal.returns
returns c e t ls h = lists_never (λ t. t) (items_in_order c.args.self.now.up) t ls h
