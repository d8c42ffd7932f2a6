use Rattle.std.proofs.Common.{arith, ap, ◌∙◌}
use Rattle.awk_types.specs.DataType.{depth}
use Rattle.awk_types.specs.Limit.{limit}
use Rattle.awk_layout.specs.Typing.{array_type, array_items}
use Rattle.awk_mask_pairs.specs.MaskTypes.{unsized}
use Rattle.awk_open.specs.Opens.{OpensLists, OpensOption}
use Rattle.awk_mask.proofs.AnyLengthLaws.{limit-unsized, nulls-index, nulls-type, nulls-items}
use Rattle.awk_mask.proofs.AnyLengthLaws.{lists-spans, lists-type, lists-items}
use Rattle.awk_mask.proofs.AnyLengthLaws.{depth-list}
use Rattle.awk_mask.proofs.mask_lists.+any_length.Goals as goal

pub any_length-requires : goal.any_length-requires
any_length-requires g t c κs within =
    let o : OpensOption c.in-Option.index c.in-Option.content c.args.m.now =
    rw c.in-Option.is at c.in_ok-index.ensures in
    (omega (arith, ap depth o.typ, c.decreases), within)

pub nulls_over-requires-clause-fits : goal.nulls_over-requires-clause-fits
nulls_over-requires-clause-fits g t c =
    let o : OpensOption c.in-Option.index c.in-Option.content c.args.m.now =
    rw c.in-Option.is at c.in_ok-index.ensures in
    o.fits

pub nulls_over-requires-clause-index : goal.nulls_over-requires-clause-index
nulls_over-requires-clause-index g t c =
    let o : OpensOption c.in-Option.index c.in-Option.content c.args.m.now =
    rw c.in-Option.is at c.in_ok-index.ensures in
    nulls-index c.args.m.now c.in-Option.content c.in_ok-items-in-Option.items c.in-Option.index o
    c.typ.ensures.lawful.is_simple c.in_ok-items-in-Option.ensures.typ
    c.in_ok-items-in-Option.ensures.items

pub nulls_over-requires-clause-limit : goal.nulls_over-requires-clause-limit
nulls_over-requires-clause-limit g t c =
    let o : OpensOption c.in-Option.index c.in-Option.content c.args.m.now =
    rw c.in-Option.is at c.in_ok-index.ensures in
    ap limit (nulls-type c.args.m.now c.in-Option.content c.in_ok-items-in-Option.items
    c.in-Option.index o c.typ.ensures.lawful.is_simple c.in_ok-items-in-Option.ensures.typ
    c.in_ok-items-in-Option.ensures.items)
    ∙ limit-unsized (array_type c.args.m.now) ∙ c.typ.ensures.lawful.within_limits

pub any_length-requires-in-Items : goal.any_length-requires-in-Items
any_length-requires-in-Items g t c κs within =
    let o : OpensLists c.in-Items.lists.class c.in-Items.lists.starts c.in-Items.lists.stops
    c.in-Items.lists.content c.args.m.now = rw c.in-Items.is at c.in_ok-index.ensures in (
      omega (
        arith,
        ap depth o.typ,
        depth-list c.in-Items.lists.class (array_type c.in-Items.lists.content),
        ap (λ y. depth (array_type y)) c.content.ensures.content,
        c.decreases,
      ),
      within,
    )

pub lists_over-requires-clause-spans : goal.lists_over-requires-clause-spans
lists_over-requires-clause-spans g t c =
    let o : OpensLists c.in-Items.lists.class c.in-Items.lists.starts c.in-Items.lists.stops
    c.in-Items.lists.content c.args.m.now = rw c.in-Items.is at c.in_ok-index.ensures in
    lists-spans c.args.m.now c.in-Items.lists.content c.in_ok-items-in-Items.items
    c.in-Items.lists.class c.in-Items.lists.starts c.in-Items.lists.stops o
    (c.in_ok-items-in-Items.ensures.typ
    ∙ ap (λ y. unsized (array_type y)) c.content.ensures.content)
    (c.in_ok-items-in-Items.ensures.items ∙ ap array_items c.content.ensures.content)

pub lists_over-requires-clause-limit : goal.lists_over-requires-clause-limit
lists_over-requires-clause-limit g t c =
    let o : OpensLists c.in-Items.lists.class c.in-Items.lists.starts c.in-Items.lists.stops
    c.in-Items.lists.content c.args.m.now = rw c.in-Items.is at c.in_ok-index.ensures in
    ap limit (lists-type c.args.m.now c.in-Items.lists.content c.in_ok-items-in-Items.items
    c.in-Items.lists.class c.in-Items.lists.starts c.in-Items.lists.stops o
    (c.in_ok-items-in-Items.ensures.typ
    ∙ ap (λ y. unsized (array_type y)) c.content.ensures.content)
    (c.in_ok-items-in-Items.ensures.items ∙ ap array_items c.content.ensures.content))
    ∙ limit-unsized (array_type c.args.m.now) ∙ c.typ.ensures.lawful.within_limits

-- ---- what is made

pub returns-in-Option-clause-typ : goal.returns-in-Option-clause-typ
returns-in-Option-clause-typ g t c =
    let o : OpensOption c.in-Option.index c.in-Option.content c.args.m.now =
    rw c.in-Option.is at c.in_ok-index.ensures in
    ap array_type c.in_ok-made-in-Option.ensures
    ∙ nulls-type c.args.m.now c.in-Option.content c.in_ok-items-in-Option.items
    c.in-Option.index o c.typ.ensures.lawful.is_simple c.in_ok-items-in-Option.ensures.typ
    c.in_ok-items-in-Option.ensures.items

pub returns-in-Option-clause-items : goal.returns-in-Option-clause-items
returns-in-Option-clause-items g t c =
    let o : OpensOption c.in-Option.index c.in-Option.content c.args.m.now =
    rw c.in-Option.is at c.in_ok-index.ensures in
    ap array_items c.in_ok-made-in-Option.ensures
    ∙ nulls-items c.args.m.now c.in-Option.content c.in_ok-items-in-Option.items
    c.in-Option.index o c.typ.ensures.lawful.is_simple c.in_ok-items-in-Option.ensures.typ
    c.in_ok-items-in-Option.ensures.items

pub returns-in-Items-clause-typ : goal.returns-in-Items-clause-typ
returns-in-Items-clause-typ g t c =
    let o : OpensLists c.in-Items.lists.class c.in-Items.lists.starts c.in-Items.lists.stops
    c.in-Items.lists.content c.args.m.now = rw c.in-Items.is at c.in_ok-index.ensures in
    ap array_type c.in_ok-made-in-Items.ensures
    ∙ lists-type c.args.m.now c.in-Items.lists.content c.in_ok-items-in-Items.items
    c.in-Items.lists.class c.in-Items.lists.starts c.in-Items.lists.stops o
    (c.in_ok-items-in-Items.ensures.typ
    ∙ ap (λ y. unsized (array_type y)) c.content.ensures.content)
    (c.in_ok-items-in-Items.ensures.items ∙ ap array_items c.content.ensures.content)

pub returns-in-Items-clause-items : goal.returns-in-Items-clause-items
returns-in-Items-clause-items g t c =
    let o : OpensLists c.in-Items.lists.class c.in-Items.lists.starts c.in-Items.lists.stops
    c.in-Items.lists.content c.args.m.now = rw c.in-Items.is at c.in_ok-index.ensures in
    ap array_items c.in_ok-made-in-Items.ensures
    ∙ lists-items c.args.m.now c.in-Items.lists.content c.in_ok-items-in-Items.items
    c.in-Items.lists.class c.in-Items.lists.starts c.in-Items.lists.stops o
    (c.in_ok-items-in-Items.ensures.typ
    ∙ ap (λ y. unsized (array_type y)) c.content.ensures.content)
    (c.in_ok-items-in-Items.ensures.items ∙ ap array_items c.content.ensures.content)
