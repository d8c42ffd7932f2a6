-- What a call answers: exactly what its definition says, or want of memory.
use Rattle.std.specs.Prelude.{◌≡◌, ⊤, Option, Some, None, Result, Ok, Err}

-- an error of the call, seen as one of the definition: None is want of memory, which is free
abbrev pub Told : {Y F : Type 0} → Option F → Result Y F → Type 0
Told None said = ⊤
Told (Some f) said = said ≡ Err f

-- what the call answers is what the definition says, where `view` shows its values and `told` its
-- errors
abbrev pub Gives : {X Y E F : Type 0} → (X → Y) → (E → Option F) → Result X E → Result Y F → Type 0
Gives view told (Ok x) said = said ≡ Ok (view x)
Gives view told (Err e) said = Told (told e) said

-- a value, unless it is refused
abbrev pub refused_or : {A F : Type 0} → Option F → A → Result A F
refused_or None a = Ok a
refused_or (Some f) a = Err f

-- the first of two refusals
infixr 20 ◌or◌
abbrev pub ◌or◌ : {F : Type 0} → Option F → Option F → Option F
(Some f) or later = Some f
None or later = later
