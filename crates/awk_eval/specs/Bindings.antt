-- Names and what they are bound to, in order of first binding.
use Rattle.std.specs.Prelude.{List, [], ◌∷◌, map, Option, Some, None, if◌then◌else◌}
use Rattle.std.specs.Str.{bytes_eq}
use Rattle.awk_types.specs.DataType.{Name}

abbrev pub Bindings : Type 0 → Type 0
Bindings A = List (Name × A)

abbrev pub names : {A : Type 0} → Bindings A → List Name
names variables = map (λ v. v.0) variables

-- what a name is bound to
abbrev pub look_up : {A : Type 0} → Name → Bindings A → Option A
look_up name [] = None
look_up name (variable ∷ more) =
    if bytes_eq name variable.0 then Some variable.1 else look_up name more

-- with a name bound: one that is bound already keeps its place, and a new one goes last
abbrev pub bind : {A : Type 0} → Name → A → Bindings A → Bindings A
bind name a [] = (name, a) ∷ []
bind name a (variable ∷ more) =
    if bytes_eq name variable.0 then (variable.0, a) ∷ more else variable ∷ bind name a more

-- each name with another view of what it is bound to
abbrev pub each : {A B : Type 0} → (A → B) → Bindings A → Bindings B
each f variables = map (λ v. (v.0, f v.1)) variables
