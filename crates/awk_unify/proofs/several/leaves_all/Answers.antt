use Rattle.std.proofs.Common.{◌≡◌, ◌↔◌, subst}
use Rattle.std.specs.Prelude.{IsTrue}
use Rattle.awk_unify.specs.View.{lifts_of}
use Rattle.awk_unify.proofs.several.leaves_all.Goals as goal

pub returns : goal.returns
returns c =
    subst (λ hs. IsTrue c.same_lifts.result ↔ (hs ≡ lifts_of c.args.fs.now)) c.in_ok-again.ensures
    c.same_lifts.ensures
