use Rattle.std.proofs.Common.{◌+◌, arith, ap, subst, ◌∙◌}
use Rattle.std.specs.Prelude.{IfSome, slice_range}
use Rattle.awk_layout.specs.Typing.{array_type, array_items}
use Rattle.awk_layout.specs.Valid.{len}
use Rattle.awk_list_rows.specs.InRow.{LieInRow}
use Rattle.awk_list_rows.proofs.WholeLaws.{row_items}
use Rattle.awk_list_rows.proofs.whole.items_in.Goals as goal

pub returns-then-count-n : goal.returns-then-count-n
returns-then-count-n g c =
    let n = c.len-n.ensures.len ∙ ap len c.content-content.ensures.content in
    row_items c.args.lists.now c.in_ok-items.items c.in-Some.first c.args.count
    c.content-content.ensures.lists
    (subst (λ o. IfSome o (LieInRow c.args.lists.now.starts c.args.lists.now.stops)) c.in-Some.is
    c.row_start.ensures)
    c.requires (omega (arith, n, c.if-first-n.true)) (omega (arith, n, c.if-count-n.true))
    (c.in_ok-items.ensures.typ ∙ ap array_type c.content-content.ensures.content)
    (c.in_ok-items.ensures.items
    ∙ ap (λ y. slice_range (array_items y) c.in-Some.first (c.in-Some.first + c.args.count))
    c.content-content.ensures.content)
