use Rattle.std.proofs.Common.{refl, subst, arith}
use Rattle.std.specs.Prelude.{◌<◌, ◌^◌}
use Rattle.awk_lanes.specs.Places.{size_of}
use Rattle.awk_columns.specs.Joined.{IsJoined}
use Rattle.awk_columns.specs.declared.lists.Joined.TheVariants.{Lists}
use Rattle.awk_types.specs.DataType.{leaf}
use Rattle.awk_types.specs.declared.primitive.Primitive.TheVariants.{I64}
use Rattle.awk_order.specs.Sort.{place_items}
use Rattle.awk_order.specs.Lists.{AreMade}
use Rattle.awk_order.proofs.ListLaws.{lists_spoilt, are_items, made_of_lists}
use Rattle.awk_order.proofs.sorting.lists_of_places.Goals as goal

pub returns-in-TooMany : goal.returns-in-TooMany
returns-in-TooMany g c =
    let l = c.args.lists.now in
    lists_spoilt (λ t. leaf I64) (place_items c.args.up) l.starts l.stops l.content
    (subst (IsJoined l.starts l.stops l.content) c.in-TooMany.is c.in_ok-joined.ensures)

pub item_places-requires : goal.item_places-requires
item_places-requires g c =
    let l = c.args.lists.now in
    let j : IsJoined l.starts l.stops l.content (Lists c.in-Lists.offsets c.in-Lists.content) =
    subst (IsJoined l.starts l.stops l.content) c.in-Lists.is c.in_ok-joined.ensures in
    let fits : size_of l.starts < 2 ^ 63 =
    omega (arith, c.len-count.ensures.len, c.len-count.ensures.fits) in
    record {
      items = are_items l.starts l.stops l.content c.in-Lists.offsets c.in-Lists.content j.1
          c.len-count.result c.len-count.ensures.len j.0 fits c.requires.leaves;
    }

pub returns-in_ok-content-in-Lists : goal.returns-in_ok-content-in-Lists
returns-in_ok-content-in-Lists g c =
    let l = c.args.lists.now in
    let o = c.in-Lists.offsets in
    let z = c.in-Lists.content in
    let j : IsJoined l.starts l.stops l.content (Lists o z) =
    subst (IsJoined l.starts l.stops l.content) c.in-Lists.is c.in_ok-joined.ensures in
    let w = c.in_ok-content-in-Lists.content in
    let made : AreMade (leaf I64) (place_items c.args.up) z o (size_of l.starts) w =
    subst (λ n. AreMade (leaf I64) (place_items c.args.up) z o n w)
    c.len-count.ensures.len c.in_ok-content-in-Lists.ensures in
    made_of_lists l.starts l.stops l.content o z j.1 (λ t. leaf I64) (place_items c.args.up) l.class
    (leaf I64) w c.content.ensures.lists.same_class j.0 refl refl
    (λ v. refl) made
