use Rattle.awk_columns.specs.Joined.{IsJoined}
use Rattle.awk_columns.specs.declared.lists.Joined.TheVariants.{Lists}
use Rattle.awk_lists.proofs.joining.plain_rows.Goals as goal

pub one_row-requires-clause-row : goal.one_row-requires-clause-row
one_row-requires-clause-row g c =
    let j : IsJoined c.args.lists.now.starts c.args.lists.now.stops c.args.lists.now.content
    (Lists c.in-Lists.offsets c.in-Lists.rows) =
    rw c.in-Lists.is at c.in_ok-joined.ensures in
    j.1

pub joined_rows-requires-clause-rows : goal.joined_rows-requires-clause-rows
joined_rows-requires-clause-rows g c =
    let j : IsJoined c.args.lists.now.starts c.args.lists.now.stops c.args.lists.now.content
    (Lists c.in-Lists.offsets c.in-Lists.rows) =
    rw c.in-Lists.is at c.in_ok-joined.ensures in
    rw (c.starts.ensures, c.stops.ensures, c.content-in-Lists.ensures.content) j.1
