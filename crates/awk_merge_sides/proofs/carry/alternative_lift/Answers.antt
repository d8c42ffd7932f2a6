use Rattle.std.proofs.Common.{◌∙◌}
use Rattle.std.proofs.lemmas.Result.{IfOk-weaker}
use Rattle.awk_merge_sides.proofs.LiftLaws.{alternative_carry-Alternatives}
use Rattle.awk_merge_sides.proofs.carry.alternative_lift.Goals as goal

pub returns-in-Alternatives : goal.returns-in-Alternatives
returns-in-Alternatives c =
    IfOk-weaker c.lift_at.result _ _
    (λ g h. h ∙ alternative_carry-Alternatives c.args.f.now c.in-Alternatives.tags
    c.in-Alternatives.parts c.args.k c.in-Alternatives.is) c.lift_at.ensures
