use Rattle.awk_open.proofs.OpeningLaws.{opens}
use Rattle.awk_open.proofs.array.open_array.Goals as goal

pub returns : goal.returns
returns g c =
    opens c.args.x.now c.in_order.result c.in_order.ensures.opened c.in_order.ensures.order
