use Rattle.awk_jagged_rows.proofs.OrderLaws.{from-lists, rows-from}
use Rattle.awk_jagged_rows.proofs.in_order.rows_from.Goals as goal

pub new-requires : goal.new-requires
new-requires g c =
    rw (c.cut-starts.ensures.value, c.cut-stops.ensures.value, c.in_ok-copy.ensures)
    (from-lists c.args.rows.now c.args.first c.args.count c.requires.spans c.requires.valid
    c.requires.within c.requires.small)

pub returns : goal.returns
returns g c =
    rows-from c.args.rows.now c.args.first c.args.count c.requires.spans c.requires.valid
    c.requires.within c.requires.small c.new.result
    (rw (c.cut-starts.ensures.value, c.cut-stops.ensures.value, c.in_ok-copy.ensures)
    at c.new.ensures)
