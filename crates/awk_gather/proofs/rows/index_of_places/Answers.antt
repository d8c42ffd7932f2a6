use Rattle.std.proofs.Common.{◌∙◌}
use Rattle.std.proofs.lemmas.Result.{IfOk-weaker}
use Rattle.awk_gather.proofs.RowIndexes.{index_over-narrow}
use Rattle.awk_gather.proofs.rows.index_of_places.Goals as goal

pub returns-else-n-clause-lane : goal.returns-else-n-clause-lane
returns-else-n-clause-lane g c =
    IfOk-weaker c.narrowed.result _ _
    (λ r e. e ∙ index_over-narrow c.args.n c.args.places.now c.requires.kind c.if-n.false)
    c.narrowed.ensures.lane
