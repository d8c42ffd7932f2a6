-- What holds where a call tells `Size`.
use Rattle.std.proofs.Common.{◌≡◌, Result, Err, sym, subst}
use Rattle.awk_pack.specs.Packing.{OnSize, IfSize}
use Rattle.awk_pack.specs.declared.packed.PackFault.{PackFault}
use Rattle.awk_pack.specs.declared.packed.PackFault.TheVariants.{Size, NoMemory}

told-on : (e : PackFault) (P Q : Type 0) → OnSize e P → (P → Q) → OnSize e Q
told-on Size P Q h f = f h
told-on NoMemory P Q h f = tt

-- a fault is handed on
pub size_on : {B : Type 0} (r : Result B PackFault) (e : PackFault) (P Q : Type 0) → r ≡ Err e
    → OnSize e P → (P → Q) → IfSize r Q
size_on r e P Q is h f = subst (λ r. IfSize r Q) (sym is) (told-on e P Q h f)
