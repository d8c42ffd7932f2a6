use Rattle.std.proofs.Common.{◌∙◌, ap, sym, subst}
use Rattle.awk_lanes.specs.Places.{IsOffsets}
use Rattle.awk_layout.specs.Layout.{offset_lists}
use Rattle.awk_layout.specs.Typing.{array_type, array_items}
use Rattle.awk_layout.specs.Valid.{len}
use Rattle.awk_with_field.proofs.OneLaws.{one_offsets_fill, one_items, one_size}
use Rattle.awk_with_field.proofs.levels.one_list.Goals as goal

pub list_offset-requires-clause-valid : goal.list_offset-requires-clause-valid
list_offset-requires-clause-valid g c =
    let x = c.args.x.now in
    let o = c.in_ok-offsets.offsets in
    subst (λ z. IsOffsets o (len z))
    (sym (c.in_ok-content.ensures.ok ∙ c.in_ok-copy.ensures ∙ c.node.ensures))
    (one_offsets_fill x o c.len.result c.len.ensures.len c.in_ok-offsets.ensures)

pub returns-clause-typ : goal.returns-clause-typ
returns-clause-typ g c =
    ap array_type (c.list_offset.ensures.node ∙ ap (offset_lists c.in_ok-offsets.offsets)
    (c.in_ok-content.ensures.ok ∙ c.in_ok-copy.ensures ∙ c.node.ensures))

pub returns-clause-items : goal.returns-clause-items
returns-clause-items g c =
    let o = c.in_ok-offsets.offsets in
    ap array_items (c.list_offset.ensures.node ∙ ap (offset_lists o)
    (c.in_ok-content.ensures.ok ∙ c.in_ok-copy.ensures ∙ c.node.ensures))
    ∙ one_items c.args.x.now o c.len.result c.len.ensures.len c.in_ok-offsets.ensures

pub returns-clause-size : goal.returns-clause-size
returns-clause-size g c =
    ap len c.list_offset.ensures.node
    ∙ one_size c.in_ok-offsets.offsets c.len.result c.in_ok-offsets.ensures
