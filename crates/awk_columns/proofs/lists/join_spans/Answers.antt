use Rattle.awk_columns.proofs.JoinLaws.{join_given, join_refused}
use Rattle.awk_columns.proofs.lists.join_spans.Goals as goal

pub returns-in-Ok : goal.returns-in-Ok
returns-in-Ok g c =
    join_given c.args.starts.now c.args.stops.now c.args.content.now c.in-Ok.lists.offsets
    c.in-Ok.lists.content
    c.in-Ok.ensures.answer c.in-Ok.ensures.offsets c.in-Ok.ensures.lists

pub returns-in-Err-Size : goal.returns-in-Err-Size
returns-in-Err-Size g c =
    join_refused c.args.starts.now c.args.stops.now c.args.content.now
    (rw c.in-Err-Size.field-0-is at c.in-Err-Size.ensures.answer)
