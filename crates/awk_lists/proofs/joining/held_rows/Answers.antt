use Rattle.std.proofs.Common.{◌<◌, IfOk, None}
use Rattle.awk_base.proofs.Results.{if_ok}
use Rattle.awk_lanes.specs.Column.{Column}
use Rattle.awk_types.specs.ItemLimit.{item_limit}
use Rattle.awk_columns.specs.Joined.{IsJoined, total}
use Rattle.awk_list_functions.specs.Made.{IsMade}
use Rattle.awk_columns.specs.declared.lists.Joined.TheVariants.{TooMany}
use Rattle.awk_lists.specs.Flatten.{flatten_function}
use Rattle.awk_list_ends.proofs.SpanLaws.{lists_within}
use Rattle.awk_list_ends.specs.Ends.{numbers_at_ends}
use Rattle.awk_lists.proofs.MovedSpans.{starts_are, stops_are, moved_spans, moved_spoilt}
use Rattle.awk_lists.proofs.MovedSpans.{held_typ, moved_made}
use Rattle.awk_lists.proofs.joining.held_rows.Goals as goal

pub index_of-requires : goal.index_of-requires
index_of-requires g c = rw c.starts.ensures c.content.ensures.lists.spans.start_kind

pub index_of-requires-2 : goal.index_of-requires-2
index_of-requires-2 g c = rw c.stops.ensures c.content.ensures.lists.spans.stop_kind

pub numbers_at_ends-requires-clause-spans : goal.numbers_at_ends-requires-clause-spans
numbers_at_ends-requires-clause-spans g c =
    rw (c.in_ok-starts.ensures, c.in_ok-stops.ensures, c.starts.ensures, c.stops.ensures)
    (lists_within c.args.lists.now.class c.args.lists.now.starts c.args.lists.now.stops
    c.args.lists.now.content c.content.ensures.lists)

pub numbers_at_ends-requires-clause-ends : goal.numbers_at_ends-requires-clause-ends
numbers_at_ends-requires-clause-ends g c =
    rw (
      c.in_ok-counts.ensures,
      c.in_ok-starts.ensures,
      c.in_ok-stops.ensures,
      c.starts.ensures,
      c.stops.ensures,
    )
    (starts_are c.args.lists.now.class c.args.lists.now.starts c.args.lists.now.stops
    c.args.lists.now.content
    c.content.ensures.lists c.args.counts.now c.args.held.now c.requires.lists)

pub numbers_at_ends-requires-2-clause-spans : goal.numbers_at_ends-requires-2-clause-spans
numbers_at_ends-requires-2-clause-spans g c =
    rw (c.in_ok-starts.ensures, c.in_ok-stops.ensures, c.starts.ensures, c.stops.ensures)
    (lists_within c.args.lists.now.class c.args.lists.now.starts c.args.lists.now.stops
    c.args.lists.now.content c.content.ensures.lists)

pub numbers_at_ends-requires-2-clause-ends : goal.numbers_at_ends-requires-2-clause-ends
numbers_at_ends-requires-2-clause-ends g c =
    rw (
      c.in_ok-counts.ensures,
      c.in_ok-starts.ensures,
      c.in_ok-stops.ensures,
      c.starts.ensures,
      c.stops.ensures,
    )
    (stops_are c.args.lists.now.class c.args.lists.now.starts c.args.lists.now.stops
    c.args.lists.now.content
    c.content.ensures.lists c.args.counts.now c.args.held.now c.requires.lists)

pub join_spans-requires : goal.join_spans-requires
join_spans-requires g c =
    rw (
      c.in_ok-firsts.ensures,
      c.in_ok-ends.ensures,
      c.in_ok-counts.ensures,
      c.in_ok-starts.ensures,
      c.in_ok-stops.ensures,
      c.starts.ensures,
      c.stops.ensures,
    )
    (moved_spans c.args.lists.now.class c.args.lists.now.starts c.args.lists.now.stops
    c.args.lists.now.content
    c.content.ensures.lists c.args.counts.now c.args.held.now c.requires.lists)

pub joined_rows-requires-clause-lists : goal.joined_rows-requires-clause-lists
joined_rows-requires-clause-lists g c =
    held_typ c.args.lists.now.class c.args.lists.now.starts c.args.lists.now.stops
    c.args.lists.now.content
    c.content.ensures.lists c.args.counts.now c.args.held.now c.requires.lists c.requires.accepted

pub joined_rows-requires-clause-spans : goal.joined_rows-requires-clause-spans
joined_rows-requires-clause-spans g c =
    rw (
      c.in_ok-firsts.ensures,
      c.in_ok-ends.ensures,
      c.in_ok-counts.ensures,
      c.in_ok-starts.ensures,
      c.in_ok-stops.ensures,
      c.starts.ensures,
      c.stops.ensures,
    )
    (moved_spans c.args.lists.now.class c.args.lists.now.starts c.args.lists.now.stops
    c.args.lists.now.content
    c.content.ensures.lists c.args.counts.now c.args.held.now c.requires.lists)

pub returns-in-TooMany : goal.returns-in-TooMany
returns-in-TooMany g c =
    let j : IsJoined c.in_ok-firsts.firsts c.in_ok-ends.ends c.args.held.now TooMany =
    rw c.in-TooMany.is at c.in_ok-join_spans.ensures in
    let k : item_limit < total
    (numbers_at_ends c.args.counts.now c.args.lists.now.starts c.args.lists.now.stops
    c.args.lists.now.starts)
    (numbers_at_ends c.args.counts.now c.args.lists.now.starts c.args.lists.now.stops
    c.args.lists.now.stops)
    c.args.held.now =
    rw (
      c.in_ok-firsts.ensures,
      c.in_ok-ends.ensures,
      c.in_ok-counts.ensures,
      c.in_ok-starts.ensures,
      c.in_ok-stops.ensures,
      c.starts.ensures,
      c.stops.ensures,
    )
    at j in
    moved_spoilt c.args.lists.now.class c.args.lists.now.starts c.args.lists.now.stops
    c.args.lists.now.content
    c.content.ensures.lists c.args.counts.now c.args.held.now c.requires.lists k

pub returns-in-Lists : goal.returns-in-Lists
returns-in-Lists g c =
    let firsts : Column =
    numbers_at_ends c.args.counts.now c.args.lists.now.starts c.args.lists.now.stops
    c.args.lists.now.starts in
    let ends : Column =
    numbers_at_ends c.args.counts.now c.args.lists.now.starts c.args.lists.now.stops
    c.args.lists.now.stops in
    let made : IfOk c.joined_rows.result
    (IsMade flatten_function None firsts ends c.args.held.now) =
    rw (
      c.in_ok-firsts.ensures,
      c.in_ok-ends.ensures,
      c.in_ok-counts.ensures,
      c.in_ok-starts.ensures,
      c.in_ok-stops.ensures,
      c.starts.ensures,
      c.stops.ensures,
    )
    at c.joined_rows.ensures in
    if_ok (IsMade flatten_function None firsts ends c.args.held.now)
    (IsMade flatten_function c.args.lists.now.class c.args.lists.now.starts c.args.lists.now.stops
    c.args.lists.now.content)
    c.joined_rows.result
    (moved_made c.args.lists.now.class c.args.lists.now.starts c.args.lists.now.stops
    c.args.lists.now.content
    c.content.ensures.lists c.args.counts.now c.args.held.now c.requires.lists c.requires.accepted)
    made
