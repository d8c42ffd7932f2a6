use Rattle.std.proofs.Common.{◌∙◌, ◌++◌, ◌∷◌, [], ap, sym, take}
use Rattle.awk_base.proofs.Lists.{take-get}
use Rattle.awk_zip.proofs.rows.nodes_of.Goals as goal

pub loop-i-preserved : goal.loop-i-preserved
loop-i-preserved c =
    c.in_ok-push.ensures.ok
    ∙ ap (λ ys. ys ++ c.in_ok-copy.field-0 ∷ []) c.loop-i.invariant
    ∙ ap (λ y. take c.loop-i.i c.args.columns.now ++ y ∷ [])
    (c.in_ok-copy.ensures ∙ c.node.ensures)
    ∙ sym (take-get c.args.columns.now c.loop-i.i c.get.result.now c.get.ensures)
