use Rattle.std.proofs.Common.{refl}
use Rattle.awk_gather.specs.Peeled.{IsPickedOpt}
use Rattle.awk_nulls.specs.Lanes.{firsts_lane}
use Rattle.awk_list_ends.proofs.SpanLaws.{lists_within}
use Rattle.awk_nulls.proofs.FirstLaws.{firsts_index, firsts_given}
use Rattle.awk_nulls.proofs.first_items.FirstListOp.column.Goals as goal

pub first_places-requires : goal.first_places-requires
first_places-requires g c = record {
  spans = rw (c.in_ok-starts.ensures, c.in_ok-stops.ensures, c.starts.ensures, c.stops.ensures)
      (lists_within c.args.lists.now.class c.args.lists.now.starts c.args.lists.now.stops
      c.args.lists.now.content
      c.content-content.ensures.lists);
}

pub index_of-requires : goal.index_of-requires
index_of-requires g c = rw c.starts.ensures c.content-content.ensures.lists.spans.start_kind

pub index_of-requires-2 : goal.index_of-requires-2
index_of-requires-2 g c = rw c.stops.ensures c.content-content.ensures.lists.spans.stop_kind

pub option_over-requires-clause-places : goal.option_over-requires-clause-places
option_over-requires-clause-places g c =
    rw (
      c.in_ok-places.ensures,
      c.in_ok-starts.ensures,
      c.in_ok-stops.ensures,
      c.node.ensures,
      c.content-content.ensures.content,
      c.starts.ensures,
      c.stops.ensures,
    )
    (firsts_index c.args.lists.now.class c.args.lists.now.starts c.args.lists.now.stops
    c.args.lists.now.content c.content-content.ensures.lists)

pub returns : goal.returns
returns g c =
    let picked : IsPickedOpt c.args.lists.now.content
    (firsts_lane c.args.lists.now.starts c.args.lists.now.stops) c.in_ok-items.items =
    rw (
      c.in_ok-places.ensures,
      c.in_ok-starts.ensures,
      c.in_ok-stops.ensures,
      c.node.ensures,
      c.content-content.ensures.content,
      c.starts.ensures,
      c.stops.ensures,
    )
    at c.in_ok-items.ensures.items in (
      refl,
      firsts_given c.args.lists.now.class c.args.lists.now.starts c.args.lists.now.stops
          c.args.lists.now.content c.content-content.ensures.lists
          (rw c.content-content.ensures.content at c.len.ensures.items) c.in_ok-items.items
          c.len-2.ensures.valid picked,
    )
