-- A function that refuses no lists for a place refuses none above the axis for one.
use Rattle.std.specs.Prelude.{◌≡◌, ℕ, suc, nat_lt, Bool, true, false, List, [], ◌∷◌, refl}
use Rattle.std.specs.Prelude.{Option, Some, None, if◌then◌else◌}
use Rattle.awk_types.specs.DataType.{DataType, unknown, leaf, var, reg, rec, tup, opt, uni}
use Rattle.awk_types.specs.DataType.{DataTypes, no_types, type}
use Rattle.awk_types.specs.ItemLimit.{item_limit}
use Rattle.awk_types.specs.Value.{Value}
use Rattle.awk_list_functions.specs.declared.causes.Spoil.{Spoil}
use Rattle.awk_list_functions.specs.declared.causes.Spoil.TheVariants.{Index, Size, Overflow}
use Rattle.awk_list_functions.specs.declared.place.Reach.{Reach}
use Rattle.awk_list_functions.specs.Causes.{first_spoil, spoil_rank}
use Rattle.awk_list_functions.specs.ListFunction.{ListFunction, NeverIndex}
use Rattle.awk_list_functions.specs.Reach.{here, inner}
use Rattle.awk_list_functions.specs.Spoils.{spoil_at, spoils_at, spoil_inside, spoil_across}
use Rattle.awk_list_functions.specs.Spoils.{spoil_among}
use Rattle.awk_list_functions.specs.Spoils.{too_many}
use Rattle.awk_columns.specs.Columns.{part_values, alternative_values, present_values}
use Rattle.awk_columns.specs.Columns.{lists_among, joined_items}

-- no place is told
abbrev IsNoIndex : Option Spoil → Type 0
IsNoIndex s = s ≡ Some Index → ⊥

one_of : (b : Bool) (r s : Option Spoil) → IsNoIndex r → IsNoIndex s
    → IsNoIndex (if b then r else s)
one_of true r s p q h = p h
one_of false r s p q h = q h

first_spoil-never : (r s : Option Spoil) → IsNoIndex r → IsNoIndex s
    → IsNoIndex (first_spoil r s)
first_spoil-never r s p q = one_of (nat_lt (spoil_rank s) (spoil_rank r)) s r q p

size_never : IsNoIndex (Some Size)
size_never h = cc

pub none_never : None ≡ Some Index → ⊥
none_never h = cc

pub too_many-never : (n : ℕ) → too_many n ≡ Some Index → ⊥
too_many-never n = one_of (nat_lt item_limit n) (Some Size) None size_never none_never

-- too many items are told where no place is told inside
pub first_spoil-size : (s : Option Spoil) → (s ≡ Some Index → ⊥)
    → first_spoil (Some Size) s ≡ Some Size
first_spoil-size (Some Index) n = absurd (n refl)
first_spoil-size (Some Size) n = refl
first_spoil-size (Some Overflow) n = refl
first_spoil-size None n = refl

-- none of these tells a place
abbrev AreNoIndex : List (List Value → Option Spoil) → Type 0
AreNoIndex [] = Unit {0}
AreNoIndex (h ∷ hs) = ((vs : List Value) → IsNoIndex (h vs)) × AreNoIndex hs

across-never : (hs : List (List Value → Option Spoil)) (j : ℕ) (vs : List Value) → AreNoIndex hs
    → IsNoIndex (spoil_across hs j vs)
across-never [] j vs n = none_never
across-never (h ∷ hs) j vs n =
    first_spoil-never (h (part_values j vs)) (spoil_across hs (suc j) vs) (n.0 (part_values j vs))
    (across-never hs (suc j) vs n.1)

among-never : (hs : List (List Value → Option Spoil)) (k : ℕ) (vs : List Value) → AreNoIndex hs
    → IsNoIndex (spoil_among hs k vs)
among-never [] k vs n = none_never
among-never (h ∷ hs) k vs n =
    first_spoil-never (h (alternative_values k vs)) (spoil_among hs (suc k) vs)
    (n.0 (alternative_values k vs)) (among-never hs (suc k) vs n.1)

inside-never : (h : List Value → Option Spoil) (vs : List Value)
    → ((ws : List Value) → IsNoIndex (h ws)) → IsNoIndex (spoil_inside h vs)
inside-never h vs n =
    first_spoil-never (too_many _) (h (joined_items vs)) (too_many-never _) (n (joined_items vs))

mutual
  pub spoil_at-never : (f : ListFunction) → NeverIndex f → (k : Reach) (t : DataType)
      (vs : List Value) → spoil_at f k t vs ≡ Some Index → ⊥
  spoil_at-never f n k unknown vs = n unknown []
  spoil_at-never f n k (leaf p) vs = none_never
  spoil_at-never f n k (var t) vs =
      one_of (here k t) _ _ (n t (lists_among vs))
      (inside-never _ vs (spoil_at-never f n (inner k) t))
  spoil_at-never f n k (reg m t) vs =
      one_of (here k t) _ _ (n t (lists_among vs))
      (inside-never _ vs (spoil_at-never f n (inner k) t))
  spoil_at-never f n k (rec ns ts) vs =
      across-never (spoils_at f k ts) 0 vs (spoils_at-never f n k ts)
  spoil_at-never f n k (tup ts) vs =
      across-never (spoils_at f k ts) 0 vs (spoils_at-never f n k ts)
  spoil_at-never f n k (opt t) vs = spoil_at-never f n k t (present_values vs)
  spoil_at-never f n k (uni ts) vs =
      among-never (spoils_at f k ts) 0 vs (spoils_at-never f n k ts)

  spoils_at-never : (f : ListFunction) → NeverIndex f → (k : Reach) (ts : DataTypes)
      → AreNoIndex (spoils_at f k ts)
  spoils_at-never f n k no_types = tt
  spoils_at-never f n k (type t ts) = (spoil_at-never f n k t, spoils_at-never f n k ts)

-- a function whose lists are refused for their number alone
pub ruleset never = (too_many-never, none_never)
