use Rattle.std.proofs.Common.{refl, ◌∙◌}
use Rattle.awk_layout.proofs.JudgedTypes.{offsets_within}
use Rattle.awk_list_rows.proofs.InRowLaws.{items_are_own, own_offsets}
use Rattle.awk_list_rows.proofs.in_row.own_items.Goals as goal

pub begin_at_zero-requires-clause-kind : goal.begin_at_zero-requires-clause-kind
begin_at_zero-requires-clause-kind g c =
    (own_offsets _ c.in-ListOffset.offsets.now c.in-ListOffset.content.now
    c.in-ListOffset.ensures.class c.in-ListOffset.ensures.valid).1.kind

pub begin_at_zero-requires-clause-some : goal.begin_at_zero-requires-clause-some
begin_at_zero-requires-clause-some g c =
    (own_offsets _ c.in-ListOffset.offsets.now c.in-ListOffset.content.now
    c.in-ListOffset.ensures.class c.in-ListOffset.ensures.valid).1.some

pub items_before-requires-clause-valid : goal.items_before-requires-clause-valid
items_before-requires-clause-valid g c =
    own_offsets _ c.in-ListOffset.offsets.now c.in-ListOffset.content.now
    c.in-ListOffset.ensures.class c.in-ListOffset.ensures.valid

pub items_before-requires-clause-limit : goal.items_before-requires-clause-limit
items_before-requires-clause-limit g c =
    offsets_within c.in-ListOffset.offsets.now c.args.x.now c.in-ListOffset.content.now
    (c.in-ListOffset.ensures.class ∙ c.node.ensures) c.typ.ensures.lawful.within_limits

pub items_before-requires-clause-first : goal.items_before-requires-clause-first
items_before-requires-clause-first g c = c.if-begin_at_zero.ensures.first refl

pub returns-then-begin_at_zero : goal.returns-then-begin_at_zero
returns-then-begin_at_zero g c =
    items_are_own c.args.x.now c.in-ListOffset.offsets.now c.in-ListOffset.content.now
    c.in_ok-items-in-ListOffset.items (c.in-ListOffset.ensures.class ∙ c.node.ensures)
    (rw c.node.ensures at c.in-ListOffset.ensures.valid)
    (c.if-begin_at_zero.ensures.first refl) c.in_ok-items-in-ListOffset.ensures.typ
    c.in_ok-items-in-ListOffset.ensures.items
