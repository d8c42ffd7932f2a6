-- Bounds on the sizes of operands.
use Rattle.std.proofs.Common.{◌≡◌, List, [], ◌∷◌, subst}
use Rattle.awk_layout.specs.declared.datum.Datum.{Datum}
use Rattle.awk_layout.specs.declared.datum.Operand.{Operand}
use Rattle.awk_layout.specs.declared.datum.Operand.TheVariants.{Of}
use Rattle.awk_eval.specs.Views.{Size, IsWithin, AreWithin}

-- what is so of all operands is so of the only one
pub IsWithin-one : (s : Size) (os : List Operand) (x : Datum) → os ≡ Of x ∷ [] → AreWithin s os
    → IsWithin s x
IsWithin-one s os x is are = let one : AreWithin s (Of x ∷ []) = subst (AreWithin s) is are in one.0
