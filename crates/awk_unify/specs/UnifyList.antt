-- Several types, unified from the left.
use Rattle.std.specs.Prelude.{◌≡◌, ◌∷◌, ◌++◌, [], List, Result, map}
use Rattle.awk_types.specs.DataType.{DataType, unknown, types_from}
use Rattle.awk_types.specs.Gives.{refused_or}
use Rattle.awk_types.specs.Has.{Has}
use Rattle.awk_types.specs.IsType.{AreTypes, IsType}
use Rattle.awk_types.specs.Limit.{Limit, limit}
use Rattle.awk_types.specs.Simple.{AreSimple, IsSimple}
use Rattle.awk_types.specs.Value.{Value}
use Rattle.awk_unify.specs.After.{after}
use Rattle.awk_unify.specs.Carry.{Carry, carried}
use Rattle.awk_unify.specs.Unifies.{IsCarriedInto}
use Rattle.awk_unify.specs.Unify.{unification}

-- the type, and how the values of each are carried into it
pub record UnificationList : Type 0 where
  pub typ : DataType
  pub lifts : List Carry

-- one type more
abbrev pub one_further : UnificationList → DataType → UnificationList
one_further u b =
    let r = unification u.typ b in
    record { typ = r.typ; lifts = map (after r.left) u.lifts ++ r.right ∷ [] }

abbrev pub unification_more : UnificationList → List DataType → UnificationList
unification_more u [] = u
unification_more u (b ∷ bs) = unification_more (one_further u b) bs

-- unknown is the first: with another type it is that type
abbrev pub unification_list : List DataType → UnificationList
unification_list ts = unification_more (record { typ = unknown; lifts = [] }) ts

-- the limit is judged on the last type alone
abbrev pub within_list : UnificationList → Result UnificationList Limit
within_list u = refused_or (limit u.typ) u

-- each value of each type is carried to one of the whole
abbrev pub AreCarriedInto : List DataType → List Carry → DataType → Type 0
AreCarriedInto [] [] t = Unit {0}
AreCarriedInto (a ∷ firsts) (f ∷ fs) t = IsCarriedInto a f t × AreCarriedInto firsts fs t
AreCarriedInto firsts fs t = ⊥

-- a value of what some types unify to, carried on as further types come, one after another
abbrev pub carried_on : DataType → List DataType → Value → Value
carried_on t [] v = v
carried_on t (b ∷ bs) v =
    let r = unification t b in
    carried_on r.typ bs (carried r.left v)

-- a type's value goes into what it unifies to with the types before, and is then carried on
abbrev pub AreCarriedOn : DataType → List DataType → List Carry → Type 0
AreCarriedOn t [] [] = Unit {0}
AreCarriedOn t (b ∷ bs) (f ∷ fs) =
    let r = unification t b in
    ((v : Value) → Has b v → carried f v ≡ carried_on r.typ bs (carried r.right v))
    × AreCarriedOn r.typ bs fs
AreCarriedOn t bs fs = ⊥

pub record UnifiesAll (ts : List DataType) (u : UnificationList) : Type 0 where
  pub from_left : u ≡ unification_list ts
  pub is_type : AreTypes (types_from ts) → IsType u.typ
  pub is_simple : AreSimple (types_from ts) → IsSimple u.typ
  pub values : AreTypes (types_from ts) → AreSimple (types_from ts)
      → AreCarriedInto ts u.lifts u.typ
  -- the one carry of a type does what the carries of all steps do
  pub steps : AreTypes (types_from ts) → AreSimple (types_from ts)
      → AreCarriedOn unknown ts u.lifts
