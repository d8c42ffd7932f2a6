-- Which data are of their type.
use Rattle.std.specs.Prelude.{List, [], ◌∷◌}
use Rattle.std.specs.List.{AllByRecursion}
use Rattle.awk_types.specs.DataType.{DataType}
use Rattle.awk_types.specs.Datum.{Datum, arr, one}
use Rattle.awk_types.specs.Has.{Has}
use Rattle.awk_types.specs.Value.{Value}

abbrev pub IsTyped : Datum → Type 0
IsTyped (arr t vs) = AllByRecursion (Has t) vs
IsTyped (one t v) = Has t v

-- a value of each type
abbrev pub HasEach : List DataType → List Value → Type 0
HasEach [] [] = Unit {0}
HasEach (t ∷ ts) (v ∷ vs) = Has t v × HasEach ts vs
HasEach [] (v ∷ vs) = ⊥
HasEach (t ∷ ts) [] = ⊥
