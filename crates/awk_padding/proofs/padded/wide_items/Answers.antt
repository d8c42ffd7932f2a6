use Rattle.std.proofs.Common.{◌≤◌, arith}
use Rattle.awk_types.specs.ItemLimit.{item_limit}
use Rattle.awk_lanes.specs.Counted.{before}
use Rattle.awk_lanes.specs.Places.{size_of}
use Rattle.awk_gather.specs.Peeled.{IsPickedOpt}
use Rattle.awk_padding.specs.Lanes.{padded_span, padded_lane}
use Rattle.awk_padding.proofs.PadGiven.{padded_index, padded_over}
use Rattle.awk_padding.proofs.padded.wide_items.Goals as goal

pub option_over-requires-clause-places : goal.option_over-requires-clause-places
option_over-requires-clause-places g c =
    let p = c.args.padded.now.padding in
    let l = c.args.padded.now.lists.now in
    rw (
      c.in_ok-places.ensures,
      c.node.ensures,
      c.content-content.ensures.content,
    )
    (padded_index p.size p.clip l.class l.starts l.stops l.content c.content-content.ensures.lists)

pub returns : goal.returns
returns g c =
    let p = c.args.padded.now.padding in
    let l = c.args.padded.now.lists.now in
    let few : before (padded_span p.size p.clip l.starts l.stops) (size_of l.starts) ≤ item_limit =
    omega (arith, c.requires.total, c.requires.limit) in
    let picked : IsPickedOpt l.content (padded_lane p.size p.clip l.starts l.stops)
    c.in_ok-items.items =
    rw (
      c.in_ok-places.ensures,
      c.node.ensures,
      c.content-content.ensures.content,
    )
    at c.in_ok-items.ensures.items in
    padded_over p.size p.clip l.class l.starts l.stops l.content c.content-content.ensures.lists
    (rw c.content-content.ensures.content at c.len.ensures.items) few c.in_ok-items.items
    c.len-2.ensures.valid picked
