-- How the values of each of several types are carried into what all unify to from the left, found
-- from the last type on: each carry is made once.
use Rattle.std.specs.Prelude.{List, [], ◌∷◌}
use Rattle.awk_types.specs.DataType.{DataType}
use Rattle.awk_unify.specs.After.{after}
use Rattle.awk_unify.specs.Carry.{Carry, keep}
use Rattle.awk_unify.specs.Unification.{Unification}
use Rattle.awk_unify.specs.Unify.{unification}

-- each step from the left, where one type is known already
abbrev pub steps_from : DataType → List DataType → List Unification
steps_from t [] = []
steps_from t (b ∷ bs) =
    let r = unification t b in
    r ∷ steps_from r.typ bs

-- what all unify to
abbrev pub last_type : DataType → List DataType → DataType
last_type t [] = t
last_type t (b ∷ bs) = last_type (unification t b).typ bs

-- into the last type: values so far, and those of the type of each step
pub record Carriers : Type 0 where
  pub so_far : Carry
  pub each : List Carry

abbrev pub step_before : Unification → Carriers → Carriers
step_before r s =
    record { so_far = after s.so_far r.left; each = after s.so_far r.right ∷ s.each }

abbrev pub carriers : List Unification → Carriers
carriers [] = record { so_far = keep; each = [] }
carriers (r ∷ rs) = step_before r (carriers rs)
