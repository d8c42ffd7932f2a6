use Rattle.std.proofs.Common.{subst, IfOk}
use Rattle.awk_counts.specs.Counted.{spans}
use Rattle.awk_columns.specs.Lists.{Listed}
use Rattle.awk_columns.specs.Reached.{IsReached}
use Rattle.awk_columns.proofs.lists.Lists.items.Goals as goal

pub returns : goal.returns
returns g c =
    subst (λ (l : Listed). IfOk c.all_items.result (IsReached l.content (spans l.starts l.stops)))
    c.self.view_is c.all_items.ensures.reached
