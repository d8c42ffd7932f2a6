use Rattle.std.specs.Prelude.{pos}
use Rattle.std.proofs.Common.{None, Some, subst, w64, to_z, of_z}
use Rattle.std.proofs.lemmas.Int.{to_z-of_z}
use Rattle.awk_at_each.specs.Each.{AreItems}
use Rattle.awk_at_each.proofs.EachItems.{lists-lack, lists-have, items-index}
use Rattle.awk_at_each.proofs.EachItems.{items-column}
use Rattle.awk_at_each.proofs.each.gathered_items.Goals as goal

pub items_at-requires-clause-places : goal.items_at-requires-clause-places
items_at-requires-clause-places g c =
    let s = c.args.lists.now.starts in
    let t = c.args.lists.now.stops in
    let found : AreItems (to_z w64 (of_z w64 c.args.i)) s t (λ k. pos k) (Some c.in-Some.places) =
    rw c.in-Some.is at c.in_ok-item_lane.ensures in
    rw c.content-content.ensures.content
    (items-index (to_z w64 (of_z w64 c.args.i)) s t c.args.lists.now.content c.in-Some.places
    c.content-content.ensures.lists.spans found.0 found.1)

pub returns-in-None : goal.returns-in-None
returns-in-None g c =
    let s = c.args.lists.now.starts in
    let t = c.args.lists.now.stops in
    let lacks : AreItems (to_z w64 (of_z w64 c.args.i)) s t (λ k. pos k) None =
    rw c.in-None.is at c.in_ok-item_lane.ensures in
    let found : AreItems c.args.i s t (λ k. pos k) None =
    subst (λ i. AreItems i s t (λ k. pos k) None) (to_z-of_z w64 c.args.i c.ranges.i) lacks in
    lists-lack c.args.i s t c.args.lists.now.content found.0 found.1 found.2

pub returns-in_ok-items_at-in-Some : goal.returns-in_ok-items_at-in-Some
returns-in_ok-items_at-in-Some g c =
    let s = c.args.lists.now.starts in
    let t = c.args.lists.now.stops in
    let made : AreItems (to_z w64 (of_z w64 c.args.i)) s t (λ k. pos k) (Some c.in-Some.places) =
    rw c.in-Some.is at c.in_ok-item_lane.ensures in
    let found : AreItems c.args.i s t (λ k. pos k) (Some c.in-Some.places) =
    subst (λ i. AreItems i s t (λ k. pos k) (Some c.in-Some.places))
    (to_z-of_z w64 c.args.i c.ranges.i) made in (
      lists-have c.args.i s t c.args.lists.now.content found.0,
      items-column c.args.i s t c.args.lists.now.content c.in-Some.places
          c.content-content.ensures.lists.spans found.0
          found.1 c.in_ok-items_at-in-Some.field-0
          (rw c.content-content.ensures.content at c.in_ok-items_at-in-Some.ensures.gathered)
          c.in_ok-items_at-in-Some.ensures.valid
          (rw c.content-content.ensures.content at c.len.ensures.items),
    )
