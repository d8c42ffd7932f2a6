-- Names of leaf types.
use Rattle.std.proofs.Common.{◌≡◌, Bool, true, false, List, [], ◌∷◌, Option, Some, None, cond, refl}
use Rattle.std.proofs.Common.{sym}
use Rattle.std.specs.List.{AllByRecursion}
use Rattle.awk_types.specs.DataType.{Name}
use Rattle.awk_types.specs.Names.{same_name}
use Rattle.awk_types.specs.declared.primitive.Primitive.{Primitive}
use Rattle.awk_types.proofs.NameLaws.{same_name_is}
use Rattle.awk_arguments.specs.Primitives.{named_among}

passes : (t : Bool) (a name : Name) (x : Primitive) (rest : Option Primitive)
    → same_name a name ≡ t → (name ≡ a → ⊥) → rest ≡ None → cond t (Some x) rest ≡ None
passes true a name x rest e other none = absurd (other (sym (same_name_is a name e)))
passes false a name x rest e other none = none

-- a name that is none of them is that of no leaf type
pub none_named : (rows : List (Name × Primitive)) (name : Name)
    → AllByRecursion (λ r. name ≡ r.0 → ⊥) rows → named_among rows name ≡ None
none_named [] name h = refl
none_named (r ∷ rows) name h =
    passes (same_name r.0 name) r.0 name r.1 (named_among rows name) refl h.0
    (none_named rows name h.1)
