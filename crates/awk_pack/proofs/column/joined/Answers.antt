use Rattle.awk_columns.specs.ListValues.{list_values}
use Rattle.awk_pack.proofs.JoinLaws.{joined-is}
use Rattle.awk_pack.proofs.column.joined.Goals as goal

pub returns-in-Ok-clause-joined : goal.returns-in-Ok-clause-joined
returns-in-Ok-clause-joined g c =
    joined-is c.args.content.now (list_values c.args.starts.now c.args.stops.now c.args.content.now)
    c.in-Ok.joined.offsets c.in-Ok.joined.content c.in-Ok.ensures.answer c.in-Ok.ensures.offsets
