use Rattle.awk_lists.proofs.SharedRows.{starts_are, stops_are, are_rows}
use Rattle.awk_lists.proofs.sharing.rows_of.Goals as goal

pub numbers_at_ends-requires-clause-ends : goal.numbers_at_ends-requires-clause-ends
numbers_at_ends-requires-clause-ends g c =
    let l = c.args.lists.now in
    rw (
      c.in_ok-offsets.ensures,
      c.in_ok-starts.ensures,
      c.in_ok-stops.ensures,
      c.starts.ensures,
      c.stops.ensures,
    )
    (starts_are l.starts l.stops l.content c.content.ensures.lists.spans c.args.offsets.now
    c.requires.offsets)

pub numbers_at_ends-requires-2-clause-ends : goal.numbers_at_ends-requires-2-clause-ends
numbers_at_ends-requires-2-clause-ends g c =
    let l = c.args.lists.now in
    rw (
      c.in_ok-offsets.ensures,
      c.in_ok-starts.ensures,
      c.in_ok-stops.ensures,
      c.starts.ensures,
      c.stops.ensures,
    )
    (stops_are l.starts l.stops l.content c.content.ensures.lists.spans c.args.offsets.now
    c.requires.offsets)

pub returns : goal.returns
returns g c =
    let l = c.args.lists.now in
    rw (
      c.in_ok-firsts.ensures,
      c.in_ok-ends.ensures,
      c.in_ok-offsets.ensures,
      c.in_ok-starts.ensures,
      c.in_ok-stops.ensures,
      c.starts.ensures,
      c.stops.ensures,
    )
    (are_rows l.starts l.stops l.content c.content.ensures.lists.spans c.args.offsets.now
    c.requires.offsets)
