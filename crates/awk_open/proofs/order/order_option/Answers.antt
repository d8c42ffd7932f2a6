use Rattle.awk_lanes.proofs.PlaceLaws.{option-index}
use Rattle.awk_open.proofs.order.order_option.Goals as goal

pub index_of-requires : goal.index_of-requires
index_of-requires g c = option-index c.args.index.now.kind c.requires.valid.1.kind

pub order_seen-requires-clause-valid : goal.order_seen-requires-clause-valid
order_seen-requires-clause-valid g c = rw c.in_ok-index.ensures c.requires.valid

pub returns-clause-opened : goal.returns-clause-opened
returns-clause-opened g c x h =
    rw c.in_ok-index.ensures at c.order_seen.ensures.opened x h

pub returns-clause-order : goal.returns-clause-order
returns-clause-order g c x h =
    rw c.in_ok-index.ensures at c.order_seen.ensures.order x h
