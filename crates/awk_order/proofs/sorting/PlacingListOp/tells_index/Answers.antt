use Rattle.awk_types.specs.DataType.{leaf}
use Rattle.awk_types.specs.declared.primitive.Primitive.TheVariants.{I64}
use Rattle.awk_order.specs.Sort.{place_items}
use Rattle.awk_order.proofs.ListLaws.{lists_never}
use Rattle.awk_order.proofs.sorting.PlacingListOp.tells_index.Goals as goal

pub returns : goal.returns
returns c e t ls h = lists_never (λ t. leaf I64) (place_items c.args.self.now.up) t ls h
