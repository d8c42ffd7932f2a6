use Rattle.std.proofs.Common.{◌<◌, ◌^◌, None, Some, arith, subst, w64, to_z, of_z}
use Rattle.std.proofs.lemmas.Int.{to_z-of_z}
use Rattle.awk_lanes.specs.Places.{size_of, at}
use Rattle.awk_at_each.specs.Each.{AreItems}
use Rattle.awk_at_each.proofs.EachItems.{lists-lack, lists-have, numbers-few, numbers-column}
use Rattle.awk_at_each.proofs.each.moved_items.Goals as goal

pub returns-in-None : goal.returns-in-None
returns-in-None g c =
    let s = c.args.lists.now.starts in
    let t = c.args.lists.now.stops in
    let f = at c.args.numbers.now in
    let lacks : AreItems (to_z w64 (of_z w64 c.args.i)) s t f None =
    rw c.in-None.is at c.in_ok-item_lane.ensures in
    let found : AreItems c.args.i s t f None =
    subst (λ i. AreItems i s t f None) (to_z-of_z w64 c.args.i c.ranges.i) lacks in
    lists-lack c.args.i s t c.args.lists.now.content found.0 found.1 found.2

pub numpy-requires : goal.numpy-requires
numpy-requires g c =
    let s = c.args.lists.now.starts in
    let t = c.args.lists.now.stops in
    let f = at c.args.numbers.now in
    let made : AreItems (to_z w64 (of_z w64 c.args.i)) s t f (Some c.in-Some.lane) =
    rw c.in-Some.is at c.in_ok-item_lane.ensures in
    let few : size_of s < 2 ^ 63 = omega (arith, c.len-2.ensures.len, c.len-2.ensures.fits) in
    numbers-few (to_z w64 (of_z w64 c.args.i)) s t c.args.numbers.now c.in-Some.lane few made.1

pub returns-in-Some : goal.returns-in-Some
returns-in-Some g c =
    let s = c.args.lists.now.starts in
    let t = c.args.lists.now.stops in
    let f = at c.args.numbers.now in
    let made : AreItems (to_z w64 (of_z w64 c.args.i)) s t f (Some c.in-Some.lane) =
    rw c.in-Some.is at c.in_ok-item_lane.ensures in
    let found : AreItems c.args.i s t f (Some c.in-Some.lane) =
    subst (λ i. AreItems i s t f (Some c.in-Some.lane))
    (to_z-of_z w64 c.args.i c.ranges.i) made in
    let few : size_of s < 2 ^ 63 = omega (arith, c.len-2.ensures.len, c.len-2.ensures.fits) in (
      lists-have c.args.i s t c.args.lists.now.content found.0,
      rw c.numpy.ensures.node
          (numbers-column c.args.i s t c.args.lists.now.content c.args.numbers.now c.in-Some.lane
          c.content-content.ensures.lists.spans found.0 c.requires.kind c.requires.content few
          (rw c.content-content.ensures.content at c.len.ensures.items) found.1),
    )
