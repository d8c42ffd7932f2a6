use Rattle.std.proofs.Common.{subst}
use Rattle.awk_types.specs.Faults.{fault_told}
use Rattle.awk_types.specs.Gives.{Gives}
use Rattle.awk_layout.specs.Typing.{array_datum}
use Rattle.awk_merge.proofs.NullRowLaws.{lists_index, lists_gives}
use Rattle.awk_merge.proofs.joining_rows.plain_rows.Goals as goal

pub rows_by_index-requires-clause-lists : goal.rows_by_index-requires-clause-lists
rows_by_index-requires-clause-lists g c =
    rw (c.starts.ensures, c.stops.ensures, c.content.ensures.content)
    (c.in_ok-opened.ensures.0, c.in_ok-opened.ensures.1.lists)

pub rows_by_index-requires-clause-index : goal.rows_by_index-requires-clause-index
rows_by_index-requires-clause-index g c =
    rw c.starts.ensures
    (lists_index c.args.index.now c.args.n c.args.k c.in_ok-opened.ensures.0
    c.in_ok-opened.opened.starts c.in_ok-opened.opened.stops c.in_ok-opened.opened.content
    c.args.lists.now c.in_ok-opened.ensures.1 c.requires.index)

pub returns : goal.returns
returns g c =
    subst (Gives array_datum fault_told c.rows_by_index.result)
    (lists_gives c.args.index.now c.args.n c.args.k c.in_ok-opened.ensures.0
    c.in_ok-opened.opened.starts c.in_ok-opened.opened.stops c.in_ok-opened.opened.content
    c.args.lists.now c.in_ok-opened.ensures.1 c.requires.index c.requires.lists.0
    c.requires.lists.1)
    (rw (c.starts.ensures, c.stops.ensures, c.content.ensures.content) at c.rows_by_index.ensures)
