use Rattle.std.proofs.Common.{◌≡◌, None, Some, sym, ap, ◌∙◌, subst}
use Rattle.awk_layout.specs.Typing.{array_type, array_items}
use Rattle.awk_layout.specs.Valid.{len}
use Rattle.awk_types.specs.Has.{Has}
use Rattle.std.specs.List.{AllByRecursion}
use Rattle.awk_combi.specs.Combinations.{slots, slot_type}
use Rattle.awk_combi.specs.Slots.{AreSlotLanes, AreTuples, ArePlaced}
use Rattle.awk_combi.proofs.TupleLaws.{placed_lanes, placed_sized, placed_none, placed_given}
use Rattle.awk_combi.proofs.tuples.tuples_of.Goals as goal

pub tuple_node-requires-clause-lanes : goal.tuple_node-requires-clause-lanes
tuple_node-requires-clause-lanes g c =
    let h : ArePlaced c.args.tuples.places c.args.tuples.replacement c.slots_made-slots.result
    c.args.lists.now.starts c.args.lists.now.stops (Some c.in-Some.made) =
    rw c.in-Some.is at c.in_ok-tuple_places.ensures in
    let has : AllByRecursion (Has (array_type c.args.lists.now.content))
    (array_items c.args.lists.now.content) =
    rw c.content-content.ensures.content at c.len.ensures.items in
    subst (λ y. AreSlotLanes c.args.tuples.places (len y) c.in-Some.made.lanes)
    (sym c.content-content.ensures.content)
    (placed_lanes c.args.tuples.places c.args.tuples.replacement c.args.tuples.n
    c.args.lists.now.class c.args.lists.now.starts c.args.lists.now.stops
    c.args.lists.now.content c.content-content.ensures.lists has c.slots_made-slots.result
    c.in-Some.made h)

pub tuple_node-requires-clause-sizes : goal.tuple_node-requires-clause-sizes
tuple_node-requires-clause-sizes g c =
    let h : ArePlaced c.args.tuples.places c.args.tuples.replacement c.slots_made-slots.result
    c.args.lists.now.starts c.args.lists.now.stops (Some c.in-Some.made) =
    rw c.in-Some.is at c.in_ok-tuple_places.ensures in
    let has : AllByRecursion (Has (array_type c.args.lists.now.content))
    (array_items c.args.lists.now.content) =
    rw c.content-content.ensures.content at c.len.ensures.items in
    placed_sized c.args.tuples.places c.args.tuples.replacement c.args.tuples.n
    c.args.lists.now.class c.args.lists.now.starts c.args.lists.now.stops
    c.args.lists.now.content c.content-content.ensures.lists has c.slots_made-slots.result
    c.in-Some.made h

pub returns-in-None : goal.returns-in-None
returns-in-None g c =
    let h : ArePlaced c.args.tuples.places c.args.tuples.replacement c.slots_made-slots.result
    c.args.lists.now.starts c.args.lists.now.stops None =
    rw c.in-None.is at c.in_ok-tuple_places.ensures in
    let has : AllByRecursion (Has (array_type c.args.lists.now.content))
    (array_items c.args.lists.now.content) =
    rw c.content-content.ensures.content at c.len.ensures.items in
    let e : c.slots_made-slots.result ≡ slots c.args.tuples.n
    (slot_type c.args.tuples.places (array_type c.args.lists.now.content)) =
    c.slots_made-slots.ensures
    ∙ ap (λ t. slots c.args.tuples.n (slot_type c.args.tuples.places t)) (c.typ.ensures.typ
    ∙ ap array_type c.content-content.ensures.content) in
    placed_none c.args.tuples.places c.args.tuples.replacement c.args.tuples.n
    c.args.lists.now.class c.args.lists.now.starts c.args.lists.now.stops
    c.args.lists.now.content c.content-content.ensures.lists has c.slots_made-slots.result e h

pub returns-in_ok-content-in-Some : goal.returns-in_ok-content-in-Some
returns-in_ok-content-in-Some g c =
    let h : ArePlaced c.args.tuples.places c.args.tuples.replacement c.slots_made-slots.result
    c.args.lists.now.starts c.args.lists.now.stops (Some c.in-Some.made) =
    rw c.in-Some.is at c.in_ok-tuple_places.ensures in
    let has : AllByRecursion (Has (array_type c.args.lists.now.content))
    (array_items c.args.lists.now.content) =
    rw c.content-content.ensures.content at c.len.ensures.items in
    let e : c.slots_made-slots.result ≡ slots c.args.tuples.n
    (slot_type c.args.tuples.places (array_type c.args.lists.now.content)) =
    c.slots_made-slots.ensures
    ∙ ap (λ t. slots c.args.tuples.n (slot_type c.args.tuples.places t)) (c.typ.ensures.typ
    ∙ ap array_type c.content-content.ensures.content) in
    placed_given c.args.tuples.places c.args.tuples.replacement c.args.tuples.n
    c.args.lists.now.class c.args.lists.now.starts c.args.lists.now.stops
    c.args.lists.now.content c.content-content.ensures.lists has c.slots_made-slots.result e
    c.in-Some.made h c.in_ok-content-in-Some.content
    (subst (λ y. AreTuples c.args.tuples.places y c.in-Some.made.total c.in-Some.made.lanes
    c.in_ok-content-in-Some.content) c.content-content.ensures.content
    c.in_ok-content-in-Some.ensures)
