use Rattle.awk_unify.proofs.SameLifts.{parts_same, alternatives_same}
use Rattle.awk_unify.proofs.lift.+same.Goals as goal

pub same_lift-returns-in-Parts-Parts : goal.same_lift-returns-in-Parts-Parts
same_lift-returns-in-Parts-Parts t c =
    parts_same _ _ _ _ _ _ c.in-Parts-Parts.is-0 c.in-Parts-Parts.is-1 c.same_parts.ensures

pub same_lift-returns-in-Alternatives-Alternatives :
    goal.same_lift-returns-in-Alternatives-Alternatives
same_lift-returns-in-Alternatives-Alternatives t c =
    alternatives_same _ _ _ _ _ _ c.in-Alternatives-Alternatives.is-0
    c.in-Alternatives-Alternatives.is-1 c.same_parts-in-Alternatives-Alternatives.ensures
