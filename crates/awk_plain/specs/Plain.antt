-- The type and the value of a plain JSON value.
use Rattle.std.specs.Prelude.{◌^◌, nat_lt, ℤ, pos, ◌&&◌, Bool, true, false, List, [], ◌∷◌, ◌++◌}
use Rattle.std.specs.Prelude.{map, Option, Some, None, option_map, Result, if◌then◌else◌}
use Rattle.serde_json.specs.Data.{Data, Num, null, boolean, number, string, array, object, Items}
use Rattle.serde_json.specs.Data.{no_items, item, Members, no_members, member, unsigned, negative}
use Rattle.serde_json.specs.Data.{float}
use Rattle.awk_types.specs.DataType.{DataType, Name, unknown, leaf, var, rec, opt, types_from}
use Rattle.awk_types.specs.Datum.{Datum, arr}
use Rattle.awk_types.specs.Faults.{limit_fault}
use Rattle.awk_types.specs.Gives.{refused_or, ◌or◌}
use Rattle.awk_types.specs.Limit.{Limit, limit}
use Rattle.awk_types.specs.Value as values
use Rattle.awk_types.specs.Value.{Value, int, truth, list, row, values_from}
use Rattle.awk_types.specs.declared.fault.Fault.{Fault}
use Rattle.awk_types.specs.declared.fault.Fault.TheVariants.{WrongType, Overflow}
use Rattle.awk_types.specs.declared.primitive.Primitive.TheVariants.{I64, Bool as Truths}
use Rattle.awk_unify.specs.Carry.{carried}
use Rattle.awk_unify.specs.Unification.{Unification}
use Rattle.awk_unify.specs.Unify.{unification}

-- ---- types

abbrev pub names_in : Members → List Name
names_in no_members = []
names_in (member key d ms) = key ∷ names_in ms

-- the type that those so far and one more unify to
abbrev pub one_more : DataType → DataType → DataType
one_more t b = (unification t b).typ

abbrev mutual
  pub plain_type : Data → DataType
  plain_type null = opt unknown
  plain_type (boolean b) = leaf Truths
  plain_type (number n) = leaf I64
  plain_type (string s) = unknown
  plain_type (array ds) = var (items_type unknown ds)
  plain_type (object ms) = rec (names_in ms) (types_from (member_types ms))

  -- from the type so far, the items from the left
  pub items_type : DataType → Items → DataType
  items_type t no_items = t
  items_type t (item d ds) = items_type (one_more t (plain_type d)) ds

  pub member_types : Members → List DataType
  member_types no_members = []
  member_types (member key d ms) = plain_type d ∷ member_types ms

-- ---- values

abbrev pub number_in : Num → ℤ
number_in (unsigned n) = pos n
number_in (negative z) = z
number_in (float x) = pos 0

-- the values so far and one more, as values of what both types unify to
abbrev pub with_one : Unification → List Value → Value → List Value
with_one u vs v = map (carried u.left) vs ++ carried u.right v ∷ []

abbrev mutual
  pub plain_value : Data → Value
  plain_value null = values.null
  plain_value (boolean b) = truth b
  plain_value (number n) = int (number_in n)
  plain_value (string s) = values.null
  plain_value (array ds) = list (values_from (items_values unknown [] ds))
  plain_value (object ms) = row (values_from (member_values ms))

  -- from the type and the values so far
  pub items_values : DataType → List Value → Items → List Value
  items_values t vs no_items = vs
  items_values t vs (item d ds) =
      items_values (one_more t (plain_type d))
      (with_one (unification t (plain_type d)) vs (plain_value d)) ds

  pub member_values : Members → List Value
  member_values no_members = []
  member_values (member key d ms) = plain_value d ∷ member_values ms

-- ---- faults

-- a number is kept as a whole one
abbrev pub is_whole : Num → Bool
is_whole (unsigned n) = true
is_whole (negative z) = true
is_whole (float x) = false

abbrev pub fits : Num → Bool
fits (unsigned n) = nat_lt n (2 ^ 63)
fits (negative z) = true
fits (float x) = true

-- each number in it passes a test; so do texts, or they do not
abbrev mutual
  pub all_pass : (Num → Bool) → Bool → Data → Bool
  all_pass f texts null = true
  all_pass f texts (boolean b) = true
  all_pass f texts (number n) = f n
  all_pass f texts (string s) = texts
  all_pass f texts (array ds) = items_pass f texts ds
  all_pass f texts (object ms) = members_pass f texts ms

  pub items_pass : (Num → Bool) → Bool → Items → Bool
  items_pass f texts no_items = true
  items_pass f texts (item d ds) = all_pass f texts d && items_pass f texts ds

  pub members_pass : (Num → Bool) → Bool → Members → Bool
  members_pass f texts no_members = true
  members_pass f texts (member key d ms) = all_pass f texts d && members_pass f texts ms

-- The types in the order in which they are made: each member's before what follows it, a list's
-- type so far after each item, and the list or the object itself last.
abbrev mutual
  pub types_made : Data → List DataType
  types_made null = opt unknown ∷ []
  types_made (boolean b) = leaf Truths ∷ []
  types_made (number n) = leaf I64 ∷ []
  types_made (string s) = []
  types_made (array ds) = items_made unknown ds ++ var (items_type unknown ds) ∷ []
  types_made (object ms) =
      members_made ms ++ rec (names_in ms) (types_from (member_types ms)) ∷ []

  pub items_made : DataType → Items → List DataType
  items_made t no_items = []
  items_made t (item d ds) =
      types_made d ++ one_more t (plain_type d) ∷ items_made (one_more t (plain_type d)) ds

  pub members_made : Members → List DataType
  members_made no_members = []
  members_made (member key d ms) = types_made d ++ members_made ms

-- the first limit that one of them passes
abbrev pub first_limit : List DataType → Option Limit
first_limit [] = None
first_limit (t ∷ ts) = limit t or first_limit ts

abbrev pub refused_unless : Bool → Fault → Option Fault
refused_unless ok f = if ok then None else Some f

abbrev pub plain_fault : Data → Option Fault
plain_fault d =
    refused_unless (all_pass is_whole false d) WrongType
    or refused_unless (all_pass fits true d) Overflow
    or option_map limit_fault (first_limit (types_made d))

-- ---- the whole

abbrev pub is_list : Data → Bool
is_list (array ds) = true
is_list d = false

-- the array of a list; another value has none
abbrev pub items_in : Data → Items
items_in (array ds) = ds
items_in d = no_items

abbrev pub plain_array : Data → Datum
plain_array d = arr (items_type unknown (items_in d)) (items_values unknown [] (items_in d))

-- the array of a list, or the first fault
abbrev pub from_values : Data → Result Datum Fault
from_values d = refused_or (plain_fault d) (plain_array d)
