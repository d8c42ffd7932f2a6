-- What a call of unifying gives: the limits of its type, and its laws as facts on its answer.
use Rattle.std.specs.Prelude.{◌≡◌, Option, Some, None, Result}
use Rattle.awk_types.specs.DataType.{DataType}
use Rattle.awk_types.specs.Gives.{refused_or}
use Rattle.awk_types.specs.Has.{Has}
use Rattle.awk_types.specs.IsType.{IsType}
use Rattle.awk_types.specs.Limit.{Limit, limit}
use Rattle.awk_types.specs.Simple.{IsSimple}
use Rattle.awk_types.specs.Value.{Value, int, truth, null, alt}
use Rattle.awk_unify.specs.Carry.{Carry, carried}
use Rattle.awk_unify.specs.Unification.{Unification}
use Rattle.awk_unify.specs.Unify.{rules, unification}

-- what unifies passes no limit by its type, or the limit that it passes
abbrev pub within_type : Unification → Result Unification Limit
within_type u = refused_or (limit u.typ) u

-- the number, truth value or null that a value is, without the tags of unions; lists and rows are
-- none
abbrev pub scalar_of : Value → Option Value
scalar_of (int z) = Some (int z)
scalar_of (truth b) = Some (truth b)
scalar_of null = Some null
scalar_of (alt k v) = scalar_of v
scalar_of v = None

-- each value of a type is carried to one of the other, and numbers, truth values and null stay
-- what they are
pub record IsCarriedInto (a : DataType) (f : Carry) (t : DataType) : Type 0 where
  pub values : (v : Value) → Has a v → Has t (carried f v)
  pub scalars : (v : Value) → Has a v → scalar_of (carried f v) ≡ scalar_of v

pub record Unifies (a b : DataType) (r : Unification) : Type 0 where
  -- the first rule that applies, where parts and alternatives unify likewise
  pub by_rules : r ≡ rules unification a b
  -- types unify to a type, and simple ones to a simple one
  pub is_type : IsType a → IsType b → IsType r.typ
  pub is_simple : IsSimple r.typ
  -- every value of either side is carried to its value in the joined type
  pub left_values : IsType a → IsType b → IsCarriedInto a r.left r.typ
  pub right_values : IsType a → IsType b → IsCarriedInto b r.right r.typ
