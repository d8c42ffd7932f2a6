use Rattle.std.proofs.Common.{ap, ◌∙◌}
use Rattle.awk_lanes.specs.Places.{size_of, place_at}
use Rattle.awk_gather.specs.Arrays.{IsGathered}
use Rattle.awk_counts.specs.Counted.{first_of, places_lane}
use Rattle.awk_lists.specs.Held.{held_at, held_counts}
use Rattle.awk_lists.proofs.HeldLists.{held_size, last_positive, last_place, held_index, are_held}
use Rattle.awk_lists.proofs.holding.held_among.Goals as goal

pub place_in-n-requires-clause-within : goal.place_in-n-requires-clause-within
place_in-n-requires-clause-within g c =
    rw (c.in_ok-counts.ensures, c.len.ensures.len, c.in_ok-starts.ensures, c.in_ok-stops.ensures)
    (held_size c.args.starts.now c.args.stops.now)

pub place_in-n-requires-clause-positive : goal.place_in-n-requires-clause-positive
place_in-n-requires-clause-positive g c =
    rw (c.in_ok-counts.ensures, c.len.ensures.len, c.in_ok-starts.ensures, c.in_ok-stops.ensures)
    (last_positive c.args.starts.now c.args.stops.now)

pub held_places-requires-clause-count : goal.held_places-requires-clause-count
held_places-requires-clause-count g c =
    c.place_in-n.ensures.value
    ∙ ap (λ o. place_at o c.len.result) c.in_ok-counts.ensures
    ∙ ap (place_at (held_counts c.in_ok-starts.starts c.in_ok-stops.stops)) c.len.ensures.len
    ∙ last_place c.in_ok-starts.starts c.in_ok-stops.stops

pub gather-requires-clause-places : goal.gather-requires-clause-places
gather-requires-clause-places g c =
    rw (c.in_ok-places.ensures, c.in_ok-starts.ensures, c.in_ok-stops.ensures)
    (held_index c.args.x.now c.args.starts.now c.args.stops.now c.requires.lengths)

pub returns : goal.returns
returns g c =
    let g : IsGathered c.args.x.now (places_lane (first_of (held_at c.args.starts.now
    c.args.stops.now) (size_of c.args.starts.now))) c.in_ok-lists.lists =
    rw (
      c.in_ok-places.ensures,
      c.in_ok-starts.ensures,
      c.in_ok-stops.ensures,
    )
    at c.in_ok-lists.ensures.gathered in
    rw (c.in_ok-counts.ensures, c.in_ok-starts.ensures, c.in_ok-stops.ensures)
    (are_held c.args.x.now c.args.starts.now c.args.stops.now c.requires.lengths
    c.in_ok-lists.lists c.requires.lists c.len-2.ensures.valid g)
