-- Laws of refusals: a fault told by a test, else the value.
use Rattle.std.proofs.Common.{◌≡◌, Option, Some, None, Result, Ok, Err, refl, sym, ap, ap₂, subst}
use Rattle.std.specs.Prelude.{option_map}
use Rattle.awk_types.specs.Gives.{Told, Gives, refused_or, ◌or◌}
use Rattle.awk_types.specs.Limit.{Limit}
use Rattle.awk_types.specs.Faults.{limit_fault}

-- a refusal says the same of another value
pub Told-other : {A B F : Type 0} (o a : Option F) (x : A) (y : B) → Told o (refused_or a x)
    → Told o (refused_or a y)
Told-other None a x y h = tt
Told-other (Some r) None x y h = absurd (cc)
Told-other (Some r) (Some b) x y h = let same : b ≡ r = cc in ap Err same

-- and of an equal refusal
pub Told-same : {A B F : Type 0} (o a b : Option F) (x : A) (y : B) → a ≡ b
    → Told o (refused_or b x) → Told o (refused_or a y)
Told-same o a b x y e h = subst (λ z. Told o (refused_or z y)) (sym e) (Told-other o b x y h)

-- the first is told first
pub Told-first : {A B F : Type 0} (o a b : Option F) (x : A) (y : B) → Told o (refused_or a x)
    → Told o (refused_or (a or b) y)
Told-first None a b x y h = tt
Told-first (Some r) None b x y h = absurd (cc)
Told-first (Some r) (Some e) b x y h = let same : e ≡ r = cc in ap Err same

-- one behind it is told where it is not there
pub Told-later : {A B F : Type 0} (o a b : Option F) (x : A) (y : B) → a ≡ None
    → Told o (refused_or b x) → Told o (refused_or (a or b) y)
Told-later o a b x y e h =
    subst (λ z. Told o (refused_or (z or b) y)) (sym e) (Told-other o b x y h)

-- where there is a value nothing is refused
pub refused_or-Ok : {A F : Type 0} (a : Option F) (x y : A) → refused_or a x ≡ Ok y
    → (a ≡ None) × (x ≡ y)
refused_or-Ok None x y h = (refl, cc)
refused_or-Ok (Some b) x y h = absurd (cc)

-- where a refusal is told it is there
pub refused_or-Err : {A F : Type 0} (a : Option F) (x : A) (r : F) → refused_or a x ≡ Err r
    → a ≡ Some r
refused_or-Err None x r h = absurd (cc)
refused_or-Err (Some b) x r h = let same : b ≡ r = cc in ap Some same

-- nothing is refused: the value
pub refused_or-None : {A F : Type 0} (a : Option F) (x y : A) → a ≡ None → x ≡ y
    → refused_or a x ≡ Ok y
refused_or-None a x y e f = ap₂ refused_or e f

-- where the first is not there, the second
pub or-None : {F : Type 0} (a b : Option F) → a ≡ None → (a or b) ≡ b
or-None a b e = ap (λ z. z or b) e

-- behind the first nothing comes
pub or-last : {F : Type 0} (a : Option F) → (a or None) ≡ a
or-last None = refl
or-last (Some r) = refl

pub or-assoc : {F : Type 0} (a b c : Option F) → ((a or b) or c) ≡ (a or (b or c))
or-assoc None b c = refl
or-assoc (Some f) b c = refl

-- where none of both is there, neither is
pub or-both : {F : Type 0} (a b : Option F) → (a or b) ≡ None → (a ≡ None) × (b ≡ None)
or-both None b h = (refl, h)
or-both (Some f) b h = absurd (cc)

-- a call that fails, by the fault that it tells
pub Gives-Err : {X Y E F : Type 0} (view : X → Y) (told : E → Option F) (r : Result X E) (e : E)
    (said : Result Y F) → r ≡ Err e → Told (told e) said → Gives view told r said
Gives-Err view told r e said is h = subst (λ r. Gives view told r said) (sym is) h

-- no fault of a limit: no limit is passed
pub no_limit : (o : Option Limit) → option_map limit_fault o ≡ None → o ≡ None
no_limit None h = refl
no_limit (Some l) h = absurd (cc)
