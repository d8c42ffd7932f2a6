use Rattle.std.proofs.Common.{subst, IfOk}
use Rattle.awk_columns.specs.Joined.{IsJoined}
use Rattle.awk_columns.specs.Lists.{Listed}
use Rattle.awk_columns.proofs.lists.Lists.joined.Goals as goal

pub returns : goal.returns
returns g c =
    subst (λ (l : Listed). IfOk c.join_spans.result (IsJoined l.starts l.stops l.content))
    c.self.view_is c.join_spans.ensures
