use Rattle.std.proofs.Common.{◌∙◌, sym, subst}
use Rattle.awk_lanes.specs.Places.{size_of}
use Rattle.awk_layout.specs.Typing.{array_type}
use Rattle.awk_parts.specs.Parts.{AreRising}
use Rattle.awk_present.proofs.LeafLaws.{present_leaf}
use Rattle.awk_order.specs.Lists.{AreMade}
use Rattle.awk_order.specs.Order.{items_in_order}
use Rattle.awk_order.proofs.CellLaws.{known_type}
use Rattle.awk_order.proofs.NodeLaws.{plain_made, fits_flat}
use Rattle.awk_order.proofs.values.plain_in_order.Goals as goal

pub numbers_of-requires : goal.numbers_of-requires
numbers_of-requires g c =
    present_leaf (array_type c.args.x.now.items.now) c.requires.plain c.requires.items.leaves

pub lane_in_order-requires : goal.lane_in_order-requires
lane_in_order-requires g c = record {
  rising = subst (AreRising c.args.x.now.offsets.now c.args.x.now.count)
      c.in_ok-lane.ensures.cells.cells c.requires.items.rising;
}

pub numpy-requires : goal.numpy-requires
numpy-requires g c =
    fits_flat c.args.x.now.items.now c.args.x.now.offsets.now c.args.x.now.count c.requires.items
    (size_of c.in_ok-sorted.sorted)
    (c.in_ok-sorted.ensures.size ∙ sym c.in_ok-lane.ensures.cells.cells)

pub returns : goal.returns
returns g c =
    let x = c.args.x.now in
    subst (AreMade (array_type x.items.now) (items_in_order c.args.up) x.items.now x.offsets.now
    x.count) (sym c.numpy.ensures.node)
    (plain_made x.items.now x.offsets.now x.count c.requires.items c.len.ensures.items c.args.up
    c.in_ok-lane.lane c.in_ok-sorted.sorted (known_type x.items.now c.requires.known)
    c.in_ok-lane.ensures c.in_ok-sorted.ensures)
