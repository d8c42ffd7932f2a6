use Rattle.awk_layout.specs.Typing.{array_type}
use Rattle.awk_order.specs.Order.{items_in_order}
use Rattle.awk_order.proofs.ListLaws.{leaves_taken}
use Rattle.awk_order.proofs.sorting.SortingListOp.column.Goals as goal

pub sorted_lists-requires : goal.sorted_lists-requires
sorted_lists-requires g c = record {
  leaves = leaves_taken (λ t. t) (items_in_order c.args.self.now.up)
      (array_type c.args.lists.now.content) c.requires.accepted;
}
