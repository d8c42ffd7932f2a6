use Rattle.std.proofs.Common.{subst, sym}
use Rattle.awk_lanes.specs.Places.{size_of, IsIndex}
use Rattle.awk_layout.specs.Valid.{len}
use Rattle.awk_counts.specs.Counted.{first_of, present_at}
use Rattle.awk_open.proofs.OrderedOptions.{option_below, option_opened, option_in_order}
use Rattle.awk_columns.proofs.ReachedContents.{places_index, reached_by}
use Rattle.awk_open.proofs.order.order_seen.Goals as goal

pub taken-requires-clause-places : goal.taken-requires-clause-places
taken-requires-clause-places g c =
    subst (λ p. IsIndex p (len c.args.content.now)) (sym c.in_ok-places.ensures.lane)
    (places_index (len c.args.content.now) (first_of (present_at c.args.index.now)
    (size_of c.args.index.now)) (option_below c.args.index.now (len c.args.content.now)
    c.requires.valid.1))

pub returns-clause-opened : goal.returns-clause-opened
returns-clause-opened g c x h =
    let below = option_below c.args.index.now (len c.args.content.now) c.requires.valid.1 in
    option_opened x c.args.content.now c.in_ok-items.items c.args.index.now c.in_ok-index.index h
    c.in_ok-index.ensures.lane
    (reached_by c.args.content.now c.in_ok-items.items c.in_ok-places.places _ below
    c.in_ok-places.ensures.lane c.in_ok-items.ensures.typ c.in_ok-items.ensures.items)
    c.len.ensures.valid

pub returns-clause-order : goal.returns-clause-order
returns-clause-order g c x h =
    let below = option_below c.args.index.now (len c.args.content.now) c.requires.valid.1 in
    option_in_order x c.args.content.now c.in_ok-items.items c.args.index.now c.in_ok-index.index h
    c.requires.present c.in_ok-index.ensures.lane
    (reached_by c.args.content.now c.in_ok-items.items c.in_ok-places.places _ below
    c.in_ok-places.ensures.lane c.in_ok-items.ensures.typ c.in_ok-items.ensures.items)
