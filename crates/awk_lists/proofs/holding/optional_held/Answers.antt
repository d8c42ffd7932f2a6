use Rattle.awk_lists.proofs.HeldLists.{option_index, option_held}
use Rattle.awk_lists.proofs.holding.optional_held.Goals as goal

pub gather_lane-requires : goal.gather_lane-requires
gather_lane-requires g c =
    rw c.in_ok-places.ensures (record {
      places = option_index c.args.index.now c.args.content.now c.args.x.now
          c.in_ok-held.held.counts c.requires.opens c.requires.lists c.in_ok-held.held.lists
          c.in_ok-held.ensures;
    })

pub returns : goal.returns
returns g c =
    rw (c.in_ok-counts.ensures.lane, c.in_ok-places.ensures)
    (option_held c.args.index.now c.args.content.now c.args.x.now c.in_ok-held.held.counts
    c.requires.opens c.requires.lists c.in_ok-held.held.lists c.in_ok-held.ensures)
