use Rattle.std.proofs.Common.{◌∙◌}
use Rattle.std.proofs.lemmas.Result.{IfOk-weaker}
use Rattle.awk_merge_sides.proofs.LiftLaws.{part_carry-Parts}
use Rattle.awk_merge_sides.proofs.carry.part_lift.Goals as goal

pub returns-in-Parts : goal.returns-in-Parts
returns-in-Parts c =
    IfOk-weaker c.lift_at.result _ _
    (λ g h. h ∙ part_carry-Parts c.args.f.now c.in-Parts.places c.in-Parts.parts c.args.k
    c.in-Parts.is) c.lift_at.ensures
