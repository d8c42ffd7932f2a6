use Rattle.std.proofs.Common.{◌∙◌}
use Rattle.std.proofs.lemmas.Result.{IfOk-weaker}
use Rattle.awk_unify.proofs.Steps.{union_alternatives}
use Rattle.awk_unify.proofs.alternatives.alternatives_of.Goals as goal

pub returns-in-Uni : goal.returns-in-Uni
returns-in-Uni c =
    IfOk-weaker c.copy.result _ _ (λ ts e. e ∙ union_alternatives _ _ c.in-Uni.is) c.copy.ensures
