use Rattle.std.proofs.Common.{refl, ◌∙◌}
use Rattle.awk_list_rows.proofs.InRowLaws.{ends_are_own, own_offsets}
use Rattle.awk_list_rows.proofs.in_row.own_ends.Goals as goal

pub begin_at_zero-requires-clause-kind : goal.begin_at_zero-requires-clause-kind
begin_at_zero-requires-clause-kind g c =
    (own_offsets _ c.in-ListOffset.offsets.now c.in-ListOffset.content.now
    c.in-ListOffset.ensures.class c.in-ListOffset.ensures.valid).1.kind

pub begin_at_zero-requires-clause-some : goal.begin_at_zero-requires-clause-some
begin_at_zero-requires-clause-some g c =
    (own_offsets _ c.in-ListOffset.offsets.now c.in-ListOffset.content.now
    c.in-ListOffset.ensures.class c.in-ListOffset.ensures.valid).1.some

pub returns-then-begin_at_zero : goal.returns-then-begin_at_zero
returns-then-begin_at_zero g c =
    ends_are_own c.args.x.now c.in-ListOffset.offsets.now c.copy.result
    c.in-ListOffset.content.now (c.in-ListOffset.ensures.class ∙ c.node.ensures)
    (rw c.node.ensures at c.in-ListOffset.ensures.valid)
    (c.if-begin_at_zero.ensures.kind refl) (c.if-begin_at_zero.ensures.first refl) c.copy.ensures
