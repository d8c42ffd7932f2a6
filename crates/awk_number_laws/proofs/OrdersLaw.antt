-- The laws of lists in order, together.
use Rattle.awk_order.specs.Order.{items_in_order}
use Rattle.awk_number_laws.specs.Orders.{OrderLaws}
use Rattle.awk_number_laws.proofs.ListOrders.{same_items_are, places_are, in_order_by, never_first}
use Rattle.awk_number_laws.proofs.ListOrders.{pick_is, twice_is}
use Rattle.awk_number_laws.proofs.OrderLaws.{picks_all, again_all, nested_sorted, nested_argsorted}
use Rattle.awk_number_laws.proofs.SortedAgain.{again_of}
use Rattle.awk_number_laws.proofs.SortedRows.{picks_rows}

pub orders_law : OrderLaws
orders_law = record {
  same_items = same_items_are;
  in_order = λ up vs. in_order_by up (items_in_order up vs) (never_first up vs);
  places = places_are;
  pick = pick_is;
  picks = picks_all;
  picks_rows = picks_rows;
  nested = nested_sorted;
  nested_places = nested_argsorted;
  twice = twice_is;
  again = again_all;
  again_of = again_of;
}
