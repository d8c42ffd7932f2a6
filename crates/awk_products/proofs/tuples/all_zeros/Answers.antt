use Rattle.std.specs.Prelude.{◌++◌, ◌∷◌, []}
use Rattle.std.proofs.Common.{ap₂, sym, ◌∙◌}
use Rattle.awk_products.specs.Sources.{zeros}
use Rattle.awk_products.proofs.SlotLaws.{replicate-more}
use Rattle.awk_products.proofs.tuples.all_zeros.Goals as goal

pub loop-j-preserved : goal.loop-j-preserved
loop-j-preserved g c =
    c.in_ok-push.ensures.ok
    ∙ ap₂ (λ us u. us ++ u ∷ []) c.loop-j.invariant (c.copy.ensures ∙ c.in_ok-lane.ensures)
    ∙ sym (replicate-more (zeros c.args.n) c.loop-j.j)
