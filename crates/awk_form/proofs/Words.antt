-- Texts in tables.
use Rattle.std.proofs.Common.{◌≡◌, ℕ, Bool, true, false, List, [], ◌∷◌, Option, Some, None, cond}
use Rattle.std.proofs.Common.{refl, sym}
use Rattle.std.specs.List.{AllByRecursion}
use Rattle.awk_types.specs.Names.{same_name}
use Rattle.awk_types.proofs.NameLaws.{same_name_is}
use Rattle.awk_form.specs.Tables.{Table, meaning}

passes : {X : Type 0} (t : Bool) (a text : List ℕ) (x : X) (rest : Option X) → same_name a text ≡ t
    → (text ≡ a → ⊥) → rest ≡ None → cond t (Some x) rest ≡ None
passes true a text x rest e other none = absurd (other (sym (same_name_is a text e)))
passes false a text x rest e other none = none

-- a text that none of the rows begins with stands for nothing
pub none_of : {X : Type 0} (rows : Table X) (text : List ℕ)
    → AllByRecursion (λ r. text ≡ r.0 → ⊥) rows → meaning rows text ≡ None
none_of [] text h = refl
none_of (r ∷ rows) text h =
    passes (same_name r.0 text) r.0 text r.1 (meaning rows text) refl h.0 (none_of rows text h.1)
