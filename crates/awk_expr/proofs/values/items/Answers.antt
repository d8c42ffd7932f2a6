use Rattle.std.proofs.Common.{arith}
use Rattle.std.proofs.lemmas.Grind.{common_steps}
use Rattle.awk_expr.proofs.Lists.{item_list-items_view}
use Rattle.awk_expr.proofs.values.items.Goals as goal

pub returns : goal.returns
returns c = grind (arith, common_steps, item_list-items_view)
