use Rattle.std.proofs.Common.{◌≡◌, ◌↔◌, subst}
use Rattle.std.specs.Prelude.{IsTrue}
use Rattle.awk_unify.specs.View.{lift_of}
use Rattle.awk_unify.proofs.several.leaves.Goals as goal

pub returns : goal.returns
returns c =
    subst (λ h. IsTrue c.same_lift.result ↔ (h ≡ lift_of c.args.f.now)) c.in_ok-again.ensures
    c.same_lift.ensures
