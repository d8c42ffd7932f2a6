use Rattle.std.proofs.Common.{◌≡◌, ◌∙◌, ap, true, subst, arith}
use Rattle.std.specs.Prelude.{◌<◌, ◌^◌}
use Rattle.awk_lanes.specs.Places.{size_of}
use Rattle.awk_columns.specs.Joined.{IsJoined}
use Rattle.awk_columns.specs.declared.lists.Joined.TheVariants.{Lists}
use Rattle.awk_order.specs.Order.{items_in_order}
use Rattle.awk_types.specs.Predicates.{is_leaf}
use Rattle.awk_types.specs.Simple.{present}
use Rattle.awk_layout.specs.Typing.{array_type}
use Rattle.awk_order.specs.Lists.{AreMade}
use Rattle.awk_order.proofs.ValueLaws.{leaf_simple, leaf_simple_value}
use Rattle.awk_order.proofs.ListLaws.{lists_spoilt, are_items, made_of_lists}
use Rattle.awk_order.proofs.sorting.sorted_lists.Goals as goal

pub returns-in-TooMany : goal.returns-in-TooMany
returns-in-TooMany g c =
    let l = c.args.lists.now in
    lists_spoilt (λ t. t) (items_in_order c.args.up) l.starts l.stops l.content
    (subst (IsJoined l.starts l.stops l.content) c.in-TooMany.is c.in_ok-joined.ensures)

pub items_in_order-requires : goal.items_in_order-requires
items_in_order-requires g c =
    let l = c.args.lists.now in
    let j : IsJoined l.starts l.stops l.content (Lists c.in-Lists.offsets c.in-Lists.content) =
    subst (IsJoined l.starts l.stops l.content) c.in-Lists.is c.in_ok-joined.ensures in
    let fits : size_of l.starts < 2 ^ 63 =
    omega (arith, c.len-count.ensures.len, c.len-count.ensures.fits) in
    record {
      items = are_items l.starts l.stops l.content c.in-Lists.offsets c.in-Lists.content j.1
          c.len-count.result c.len-count.ensures.len j.0 fits c.requires.leaves;
    }

pub returns-in_ok-content-in-Lists : goal.returns-in_ok-content-in-Lists
returns-in_ok-content-in-Lists g c =
    let l = c.args.lists.now in
    let o = c.in-Lists.offsets in
    let z = c.in-Lists.content in
    let j : IsJoined l.starts l.stops l.content (Lists o z) =
    subst (IsJoined l.starts l.stops l.content) c.in-Lists.is c.in_ok-joined.ensures in
    let leaves : is_leaf (present (array_type z)) ≡ true =
    ap (λ t. is_leaf (present t)) j.1.typ ∙ c.requires.leaves in
    let w = c.in_ok-content-in-Lists.content in
    let made : AreMade (array_type z) (items_in_order c.args.up) z o (size_of l.starts) w =
    subst (λ n. AreMade (array_type z) (items_in_order c.args.up) z o n w)
    c.len-count.ensures.len c.in_ok-content-in-Lists.ensures in
    made_of_lists l.starts l.stops l.content o z j.1 (λ t. t) (items_in_order c.args.up) l.class
    (array_type z) w c.content.ensures.lists.same_class j.0 j.1.typ
    (leaf_simple (array_type z) leaves)
    (λ v. leaf_simple_value (array_type z) v leaves) made
