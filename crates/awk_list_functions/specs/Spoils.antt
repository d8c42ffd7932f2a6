-- Why the values of a column are refused: the lists above the axis hold too many items together, or
-- the function
-- refuses the lists at the axis.
use Rattle.std.specs.Prelude.{ℕ, suc, nat_lt, List, [], ◌∷◌, length, Option, Some, None}
use Rattle.std.specs.Prelude.{if◌then◌else◌}
use Rattle.awk_types.specs.DataType.{DataType, unknown, leaf, var, reg, rec, tup, opt, uni}
use Rattle.awk_types.specs.DataType.{DataTypes, no_types, type}
use Rattle.awk_types.specs.Value.{Value}
use Rattle.awk_types.specs.ItemLimit.{item_limit}
use Rattle.awk_list_functions.specs.declared.causes.Spoil.{Spoil}
use Rattle.awk_list_functions.specs.declared.causes.Spoil.TheVariants.{Size}
use Rattle.awk_list_functions.specs.declared.place.Reach.{Reach}
use Rattle.awk_list_functions.specs.Reach.{here, inner}
use Rattle.awk_list_functions.specs.Causes.{first_spoil}
use Rattle.awk_columns.specs.Columns.{present_values, part_values, lists_among}
use Rattle.awk_columns.specs.Columns.{joined_items, alternative_values}
use Rattle.awk_list_functions.specs.ListFunction.{ListFunction}

-- a column of n items
abbrev pub too_many : ℕ → Option Spoil
too_many n = if nat_lt item_limit n then Some Size else None

-- each part by the function of its place, from place j on
abbrev pub spoil_across : List (List Value → Option Spoil) → ℕ → List Value → Option Spoil
spoil_across [] j vs = None
spoil_across (h ∷ hs) j vs = first_spoil (h (part_values j vs)) (spoil_across hs (suc j) vs)

-- each alternative by the function of its tag, from tag k on
abbrev pub spoil_among : List (List Value → Option Spoil) → ℕ → List Value → Option Spoil
spoil_among [] k vs = None
spoil_among (h ∷ hs) k vs = first_spoil (h (alternative_values k vs)) (spoil_among hs (suc k) vs)

-- the lists above the axis and what is inside: a place inside is told before their size
abbrev pub spoil_inside : (List Value → Option Spoil) → List Value → Option Spoil
spoil_inside h vs = first_spoil (too_many (length (joined_items vs))) (h (joined_items vs))

abbrev mutual
  pub spoil_at : ListFunction → Reach → DataType → List Value → Option Spoil
  spoil_at f k unknown vs = f.spoil unknown []
  spoil_at f k (leaf p) vs = None
  spoil_at f k (var t) vs =
      if here k t then f.spoil t (lists_among vs) else spoil_inside (spoil_at f (inner k) t) vs
  spoil_at f k (reg n t) vs =
      if here k t then f.spoil t (lists_among vs) else spoil_inside (spoil_at f (inner k) t) vs
  spoil_at f k (rec ns ts) vs = spoil_across (spoils_at f k ts) 0 vs
  spoil_at f k (tup ts) vs = spoil_across (spoils_at f k ts) 0 vs
  spoil_at f k (opt t) vs = spoil_at f k t (present_values vs)
  spoil_at f k (uni ts) vs = spoil_among (spoils_at f k ts) 0 vs

  pub spoils_at : ListFunction → Reach → DataTypes → List (List Value → Option Spoil)
  spoils_at f k no_types = []
  spoils_at f k (type t ts) = spoil_at f k t ∷ spoils_at f k ts
