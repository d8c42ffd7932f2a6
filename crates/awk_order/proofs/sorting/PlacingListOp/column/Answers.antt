use Rattle.awk_types.specs.DataType.{leaf}
use Rattle.awk_types.specs.declared.primitive.Primitive.TheVariants.{I64}
use Rattle.awk_layout.specs.Typing.{array_type}
use Rattle.awk_order.specs.Sort.{place_items}
use Rattle.awk_order.proofs.ListLaws.{leaves_taken}
use Rattle.awk_order.proofs.sorting.PlacingListOp.column.Goals as goal

pub lists_of_places-requires : goal.lists_of_places-requires
lists_of_places-requires g c = record {
  leaves = leaves_taken (λ t. leaf I64) (place_items c.args.self.now.up)
      (array_type c.args.lists.now.content) c.requires.accepted;
}
