use Rattle.awk_products.proofs.SlotLaws.{all_counts, lanes_zero}
use Rattle.awk_products.proofs.tuples.slot_lanes.Goals as goal

pub product_lanes-requires-clause-lengths : goal.product_lanes-requires-clause-lengths
product_lanes-requires-clause-lengths g c = all_counts c.args.n c.args.x.now c.requires.sources

pub product_lanes-requires-clause-spans : goal.product_lanes-requires-clause-spans
product_lanes-requires-clause-spans g c =
    lanes_zero c.args.n c.args.x.now c.requires.sources c.len.result c.in_ok-firsts.firsts
    c.len.ensures c.in_ok-firsts.ensures

pub product_lanes-requires-2-clause-lengths : goal.product_lanes-requires-2-clause-lengths
product_lanes-requires-2-clause-lengths g c = all_counts c.args.n c.args.x.now c.requires.sources
