use Rattle.std.proofs.Common.{◌≡◌, ◌<◌, ◌∙◌}
use Rattle.awk_types.specs.ItemLimit.{item_limit}
use Rattle.awk_columns.specs.Joined.{IsJoined, total}
use Rattle.awk_columns.specs.declared.lists.Joined.TheVariants.{TooMany, Lists}
use Rattle.awk_list_ends.specs.Ends.{numbers_at_ends}
use Rattle.awk_counts.specs.Present.{present_lane}
use Rattle.awk_nulls.proofs.DropLaws.{starts_are, stops_are, present_lists, present_spoilt}
use Rattle.awk_nulls.proofs.DropLaws.{present_fine, present_given}
use Rattle.awk_nulls.proofs.PresentLaws.{option_size, option_fits}
use Rattle.awk_nulls.proofs.dropping.present_lists.Goals as goal

pub ends_among_present-requires-clause-kind : goal.ends_among_present-requires-clause-kind
ends_among_present-requires-clause-kind g c = c.requires.items.kind

pub ends_among_present-requires-clause-size : goal.ends_among_present-requires-clause-size
ends_among_present-requires-clause-size g c =
    option_size c.args.lists.now.content c.args.index.now c.args.items.now c.requires.items

pub ends_among_present-requires-clause-small : goal.ends_among_present-requires-clause-small
ends_among_present-requires-clause-small g c =
    option_fits c.args.lists.now.content c.args.index.now c.args.items.now
    c.content.ensures.lists.valid c.requires.items

pub ends_among_present-requires-clause-starts : goal.ends_among_present-requires-clause-starts
ends_among_present-requires-clause-starts g c =
    starts_are c.args.lists.now.class c.args.lists.now.starts c.args.lists.now.stops
    c.args.lists.now.content c.content.ensures.lists (present_lane c.args.index.now)
    c.args.items.now c.requires.items.present

pub ends_among_present-requires-clause-stops : goal.ends_among_present-requires-clause-stops
ends_among_present-requires-clause-stops g c =
    stops_are c.args.lists.now.class c.args.lists.now.starts c.args.lists.now.stops
    c.args.lists.now.content c.content.ensures.lists (present_lane c.args.index.now)
    c.args.items.now c.requires.items.present

pub join_spans-requires : goal.join_spans-requires
join_spans-requires g c =
    rw (c.in_ok-ends.ensures.0, c.in_ok-ends.ensures.1)
    (present_lists c.args.lists.now.class c.args.lists.now.starts c.args.lists.now.stops
    c.args.lists.now.content c.content.ensures.lists (present_lane c.args.index.now)
    c.args.items.now c.requires.items.present)

pub returns-in-TooMany : goal.returns-in-TooMany
returns-in-TooMany g c =
    let j : IsJoined c.in_ok-ends.ends.starts c.in_ok-ends.ends.stops c.args.items.now TooMany =
    rw c.in-TooMany.is at c.in_ok-join_spans.ensures in
    let k : item_limit < total
    (numbers_at_ends (present_lane c.args.index.now) c.args.lists.now.starts
    c.args.lists.now.stops c.args.lists.now.starts)
    (numbers_at_ends (present_lane c.args.index.now) c.args.lists.now.starts
    c.args.lists.now.stops c.args.lists.now.stops)
    c.args.items.now =
    rw (c.in_ok-ends.ensures.0, c.in_ok-ends.ensures.1) at j in
    present_spoilt c.args.lists.now.class c.args.lists.now.starts c.args.lists.now.stops
    c.args.lists.now.content c.content.ensures.lists (present_lane c.args.index.now)
    c.args.items.now c.requires.items.present k

pub returns-in_ok-copy-in-Lists : goal.returns-in_ok-copy-in-Lists
returns-in_ok-copy-in-Lists g c =
    let j : IsJoined c.in_ok-ends.ends.starts c.in_ok-ends.ends.stops c.args.items.now
    (Lists c.in-Lists.offsets c.in-Lists.content) =
    rw c.in-Lists.is at c.in_ok-join_spans.ensures in
    let k : IsJoined
    (numbers_at_ends (present_lane c.args.index.now) c.args.lists.now.starts
    c.args.lists.now.stops c.args.lists.now.starts)
    (numbers_at_ends (present_lane c.args.index.now) c.args.lists.now.starts
    c.args.lists.now.stops c.args.lists.now.stops)
    c.args.items.now (Lists c.in-Lists.offsets c.in-Lists.content) =
    rw (c.in_ok-ends.ensures.0, c.in_ok-ends.ensures.1) at j in
    let e : c.in_ok-copy-in-Lists.field-0 ≡ c.in-Lists.content =
    c.in_ok-copy-in-Lists.ensures ∙ c.node.ensures in (
      present_fine c.args.lists.now.class c.args.lists.now.starts c.args.lists.now.stops
          c.args.lists.now.content c.content.ensures.lists (present_lane c.args.index.now)
          c.args.items.now c.requires.items.present k.0,
      rw e (present_given c.args.lists.now.class c.args.lists.now.starts
          c.args.lists.now.stops c.args.lists.now.content c.content.ensures.lists
          (present_lane c.args.index.now) c.args.items.now c.requires.items.present
          c.in-Lists.offsets c.in-Lists.content k.1 c.len.ensures.items),
    )
