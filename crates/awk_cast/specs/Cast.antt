-- All leaves of a datum as those of another primitive, through lists, options, records and
-- unions.
use Rattle.std.specs.Prelude.{ℕ, suc, ℤ, nat_lt, Bool, false, not, ◌||◌, List, [], ◌∷◌, length, map}
use Rattle.std.specs.Prelude.{Option, Some, None, Result, if◌then◌else◌}
use Rattle.std.specs.List.{list_any}
use Rattle.awk_types.specs.DataType.{DataType, DataTypes, unknown, leaf, var, reg, rec, tup, opt}
use Rattle.awk_types.specs.DataType.{uni, no_types, type, types_from}
use Rattle.awk_types.specs.Datum.{Datum, arr, one}
use Rattle.awk_primitives.specs.Fits.{fits}
use Rattle.awk_types.specs.Gives.{refused_or}
use Rattle.awk_types.specs.ItemLimit.{item_limit}
use Rattle.awk_types.specs.Parts.{number_of}
use Rattle.awk_types.specs.Predicates.{is_null}
use Rattle.awk_types.specs.Simple.{in_list, in_row, in_option, in_alternative}
use Rattle.awk_types.specs.Value.{Value, null}
use Rattle.awk_types.specs.declared.fault.Fault.{Fault}
use Rattle.awk_types.specs.declared.fault.Fault.TheVariants.{Size, Overflow}
use Rattle.awk_types.specs.declared.primitive.Primitive.{Primitive}
use Rattle.awk_types.specs.declared.primitive.Primitive.TheVariants.{Bool as Truths}
use Rattle.awk_columns.specs.Columns.{joined_items, present_values, part_values, alternative_values}
use Rattle.awk_leaves.specs.Values.{value_in}

-- ---- types; unknown stays

abbrev mutual
  pub cast_type : Primitive → DataType → DataType
  cast_type p unknown = unknown
  cast_type p (leaf q) = leaf p
  cast_type p (var t) = var (cast_type p t)
  cast_type p (reg n t) = reg n (cast_type p t)
  cast_type p (rec ns ts) = rec ns (types_from (cast_types p ts))
  cast_type p (tup ts) = tup (types_from (cast_types p ts))
  cast_type p (opt t) = opt (cast_type p t)
  cast_type p (uni ts) = uni (types_from (cast_types p ts))

  pub cast_types : Primitive → DataTypes → List DataType
  cast_types p no_types = []
  cast_types p (type t ts) = cast_type p t ∷ cast_types p ts

-- ---- values of a type

-- a number, or a truth value as 0 or 1, as a value of a primitive: it is true where it is not 0.
-- Null stays null.
abbrev pub cast_leaf : Primitive → Value → Value
cast_leaf p v = if is_null v then null else value_in p (number_of v)

abbrev mutual
  pub cast_value : Primitive → DataType → Value → Value
  cast_value p unknown v = v
  cast_value p (leaf q) v = cast_leaf p v
  cast_value p (var t) v = in_list (cast_value p t) v
  cast_value p (reg n t) v = in_list (cast_value p t) v
  cast_value p (rec ns ts) v = in_row (cast_values p ts) v
  cast_value p (tup ts) v = in_row (cast_values p ts) v
  cast_value p (opt t) v = in_option (cast_value p t) v
  cast_value p (uni ts) v = in_alternative (cast_values p ts) v

  pub cast_values : Primitive → DataTypes → List (Value → Value)
  cast_values p no_types = []
  cast_values p (type t ts) = cast_value p t ∷ cast_values p ts

-- ---- tests of what stands at some node of a type

-- some part by the test of its place, from place j on
abbrev pub some_part : List (List Value → Bool) → ℕ → List Value → Bool
some_part [] j vs = false
some_part (h ∷ hs) j vs = h (part_values j vs) || some_part hs (suc j) vs

-- some alternative by the test of its tag, from tag k on
abbrev pub some_alternative : List (List Value → Bool) → ℕ → List Value → Bool
some_alternative [] k vs = false
some_alternative (h ∷ hs) k vs = h (alternative_values k vs) || some_alternative hs (suc k) vs

-- whether f holds of the items of all lists at some node, or g of all leaves at some node
abbrev mutual
  pub some_node : (List Value → Bool) → (List Value → Bool) → DataType → List Value → Bool
  some_node f g unknown vs = false
  some_node f g (leaf q) vs = g vs
  some_node f g (var t) vs = f (joined_items vs) || some_node f g t (joined_items vs)
  some_node f g (reg n t) vs = f (joined_items vs) || some_node f g t (joined_items vs)
  some_node f g (rec ns ts) vs = some_part (some_nodes f g ts) 0 vs
  some_node f g (tup ts) vs = some_part (some_nodes f g ts) 0 vs
  some_node f g (opt t) vs = some_node f g t (present_values vs)
  some_node f g (uni ts) vs = some_alternative (some_nodes f g ts) 0 vs

  pub some_nodes : (List Value → Bool) → (List Value → Bool) → DataTypes
      → List (List Value → Bool)
  some_nodes f g no_types = []
  some_nodes f g (type t ts) = some_node f g t ∷ some_nodes f g ts

-- ---- what is not cast

abbrev pub are_many : List Value → Bool
are_many vs = nat_lt item_limit (length vs)

-- the lists at some node hold too many items together
abbrev pub is_large : DataType → List Value → Bool
is_large t vs = some_node are_many (λ vs. false) t vs

-- the primitive does not hold the number; a truth value is made of every number
abbrev pub is_past : Primitive → ℤ → Bool
is_past Truths z = false
is_past p z = not (fits p z)

abbrev pub leaf_past : Primitive → Value → Bool
leaf_past p v = is_past p (number_of v)

-- a leaf at some node is not held
abbrev pub overflows : Primitive → DataType → List Value → Bool
overflows p t vs = some_node (λ vs. false) (list_any (leaf_past p)) t vs

-- a size anywhere is told before an overflow anywhere
abbrev pub told : Bool → Bool → Option Fault
told large past = if large then Some Size else if past then Some Overflow else None

-- ---- data

-- An array counts its items, as its lists do. The result's type passes no limit that the datum's
-- does not pass, so none is judged.
abbrev pub cast_of : Primitive → Datum → Result Datum Fault
cast_of p (arr t vs) =
    refused_or (told (are_many vs || is_large t vs) (overflows p t vs))
    (arr (cast_type p t) (map (cast_value p t) vs))
cast_of p (one t v) =
    refused_or (told (is_large t (v ∷ [])) (overflows p t (v ∷ [])))
    (one (cast_type p t) (cast_value p t v))
