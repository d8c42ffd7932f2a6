use Rattle.std.proofs.Common.{sym, ◌∙◌}
use Rattle.std.proofs.lemmas.Result.{IfOk-weaker}
use Rattle.awk_merge_sides.specs.Sides.{side_of, sides_of}
use Rattle.awk_merge_lists.proofs.NumberLaws.{only_side}
use Rattle.awk_merge_lists.proofs.leaves.all_numbers.Goals as goal

pub returns-then-len-eq1-clause-values : goal.returns-then-len-eq1-clause-values
returns-then-len-eq1-clause-values g c =
    IfOk-weaker c.side_lane.result _ _
    (λ r w. w ∙ only_side (sides_of c.args.sides.now) (side_of c.get.result.now)
    (sym c.len.ensures ∙ c.if-len-eq1.true) c.get.ensures) c.side_lane.ensures.values
