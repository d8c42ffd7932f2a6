-- A call that fails hands its fault on.
use Rattle.std.proofs.Common.{◌≡◌, Result, Ok, Err, sym, subst}
use Rattle.std.specs.Prelude.{IsErrAnd}
use Rattle.awk_types.specs.Gives.{Told, Gives}
use Rattle.awk_valid.specs.Broken.{Refusal}
use Rattle.awk_valid.specs.Loading.{told}
use Rattle.awk_valid.specs.declared.fault.LoadFault.{LoadFault}

-- what a fault tells is told by the result that holds it
pub Gives-fails : {X Y : Type 0} (view : X → Y) (r : Result X LoadFault) (e : LoadFault)
    (said : Result Y Refusal) → IsErrAnd r (λ x. x ≡ e) → Told (told e) said
    → Gives view told r said
Gives-fails view (Ok y) e said is h = absurd is
Gives-fails view (Err x) e said is h = subst (λ z. Told (told z) said) (sym is) h
