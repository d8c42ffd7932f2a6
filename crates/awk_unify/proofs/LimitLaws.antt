-- A simple type is held against the limits by simplifying it.
use Rattle.std.proofs.Common.{◌≡◌, ◌∙◌, Ok, None, Option, ap, sym}
use Rattle.awk_types.proofs.RefusalLaws.{Told-same, refused_or-Ok}
use Rattle.awk_types.proofs.SimpleLaws.{simple_stays}
use Rattle.awk_types.specs.DataType.{DataType}
use Rattle.awk_types.specs.Gives.{Told, refused_or}
use Rattle.awk_types.specs.Limit.{Limit, limit, within}
use Rattle.awk_types.specs.Simple.{IsSimple, simple}

stays : (t u : DataType) → IsSimple u → t ≡ u → simple t ≡ u
stays t u x e = ap simple e ∙ simple_stays u x

-- what passes no limit is the type itself
pub within_is : (t s u : DataType) → IsSimple u → t ≡ u → within (simple t) ≡ Ok s → s ≡ u
within_is t s u x e h = sym (refused_or-Ok (limit (simple t)) (simple t) s h).1 ∙ stays t u x e

pub within_none : (t s u : DataType) → IsSimple u → t ≡ u → within (simple t) ≡ Ok s
    → limit u ≡ None
within_none t s u x e h =
    ap limit (sym (stays t u x e)) ∙ (refused_or-Ok (limit (simple t)) (simple t) s h).0

-- and a limit is told that it passes
pub within_told : {A : Type 0} (t u : DataType) (o : Option Limit) (y : A) → IsSimple u → t ≡ u
    → Told o (within (simple t)) → Told o (refused_or (limit u) y)
within_told t u o y x e h =
    Told-same o (limit u) (limit (simple t)) (simple t) y (ap limit (sym (stays t u x e))) h
