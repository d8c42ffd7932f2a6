use Rattle.awk_unify.proofs.SameLifts.{idle_same}
use Rattle.awk_unify.proofs.several.is_idle.Goals as goal

pub returns-in-Some : goal.returns-in-Some
returns-in-Some c = idle_same _ _ _ c.in-Some.is c.same_lift.ensures
