use Rattle.awk_list_ends.proofs.SpanLaws.{lists_within}
use Rattle.awk_nulls.proofs.ends.counted_ends.Goals as goal

pub index_of-requires : goal.index_of-requires
index_of-requires g c = rw c.starts.ensures c.content.ensures.lists.spans.start_kind

pub index_of-requires-2 : goal.index_of-requires-2
index_of-requires-2 g c = rw c.stops.ensures c.content.ensures.lists.spans.stop_kind

pub index_of-requires-3 : goal.index_of-requires-3
index_of-requires-3 g c = rw c.in_ok-counts.ensures tt

pub numbers_at_ends-requires-clause-spans : goal.numbers_at_ends-requires-clause-spans
numbers_at_ends-requires-clause-spans g c =
    rw (c.in_ok-starts.ensures, c.in_ok-stops.ensures, c.starts.ensures, c.stops.ensures)
    (lists_within c.args.lists.now.class c.args.lists.now.starts c.args.lists.now.stops
    c.args.lists.now.content c.content.ensures.lists)

pub numbers_at_ends-requires-2-clause-spans : goal.numbers_at_ends-requires-2-clause-spans
numbers_at_ends-requires-2-clause-spans g c =
    rw (c.in_ok-starts.ensures, c.in_ok-stops.ensures, c.starts.ensures, c.stops.ensures)
    (lists_within c.args.lists.now.class c.args.lists.now.starts c.args.lists.now.stops
    c.args.lists.now.content c.content.ensures.lists)

pub numbers_at_ends-requires-clause-kind : goal.numbers_at_ends-requires-clause-kind
numbers_at_ends-requires-clause-kind g c =
    rw (c.in_ok-counts-2.ensures, c.in_ok-counts.ensures) tt

pub numbers_at_ends-requires-2-clause-kind : goal.numbers_at_ends-requires-2-clause-kind
numbers_at_ends-requires-2-clause-kind g c =
    rw (c.in_ok-counts-2.ensures, c.in_ok-counts.ensures) tt

pub numbers_at_ends-requires-clause-ends : goal.numbers_at_ends-requires-clause-ends
numbers_at_ends-requires-clause-ends g c =
    rw (
      c.in_ok-counts-2.ensures,
      c.in_ok-counts.ensures,
      c.in_ok-starts.ensures,
      c.in_ok-stops.ensures,
      c.starts.ensures,
      c.stops.ensures,
    )
    c.requires.starts

pub numbers_at_ends-requires-2-clause-ends : goal.numbers_at_ends-requires-2-clause-ends
numbers_at_ends-requires-2-clause-ends g c =
    rw (
      c.in_ok-counts-2.ensures,
      c.in_ok-counts.ensures,
      c.in_ok-starts.ensures,
      c.in_ok-stops.ensures,
      c.starts.ensures,
      c.stops.ensures,
    )
    c.requires.stops
