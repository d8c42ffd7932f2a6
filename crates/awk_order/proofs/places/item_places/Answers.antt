use Rattle.std.proofs.Common.{◌∙◌, sym, subst}
use Rattle.awk_types.specs.DataType.{leaf}
use Rattle.awk_types.specs.declared.primitive.Primitive.TheVariants as primitive
use Rattle.awk_lanes.specs.Places.{size_of}
use Rattle.awk_sorting.specs.Cells.{AreReady, OrdersLane}
use Rattle.awk_order.specs.Lists.{AreMade}
use Rattle.awk_order.specs.Sort.{place_items}
use Rattle.awk_order.proofs.NodeLaws.{cells_ready, places_made, fits_flat}
use Rattle.awk_order.proofs.places.item_places.Goals as goal

pub places_in_order-requires : goal.places_in_order-requires
places_in_order-requires g c =
    let x = c.args.x.now in
    let l = c.in_ok-found.found in
    record {
      ready = subst (λ j. AreReady l.lane j x.offsets.now x.count) (sym c.as_ref.ensures.value)
          (cells_ready x.items.now x.offsets.now x.count c.requires.items l.lane l.index
          c.in_ok-found.ensures);
    }

pub numpy-requires : goal.numpy-requires
numpy-requires g c =
    let x = c.args.x.now in
    fits_flat x.items.now x.offsets.now x.count c.requires.items (size_of c.in_ok-places.places)
    (c.in_ok-places.ensures.size ∙ c.requires.items.last)

pub returns : goal.returns
returns g c =
    let x = c.args.x.now in
    let l = c.in_ok-found.found in
    let orders : OrdersLane c.args.up l.lane l.index x.offsets.now x.count c.in_ok-places.places =
    subst (λ j. OrdersLane c.args.up l.lane j x.offsets.now x.count c.in_ok-places.places)
    c.as_ref.ensures.value c.in_ok-places.ensures in
    subst (AreMade (leaf primitive.I64) (place_items c.args.up) x.items.now x.offsets.now x.count)
    (sym c.numpy.ensures.node)
    (places_made x.items.now x.offsets.now x.count c.requires.items c.args.up l.lane l.index
    c.in_ok-places.places c.in_ok-found.ensures orders)
