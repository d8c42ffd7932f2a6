-- A function of one list: what it does to the type and to the values, and why it refuses either.
use Rattle.std.specs.Prelude.{◌≡◌, List, Option, Some, Bool, true, false}
use Rattle.awk_types.specs.DataType.{DataType}
use Rattle.awk_types.specs.Value.{Value, list, values_from}
use Rattle.awk_list_functions.specs.declared.causes.Refusal.{Refusal}
use Rattle.awk_list_functions.specs.declared.causes.Spoil.{Spoil}
use Rattle.awk_list_functions.specs.declared.causes.Spoil.TheVariants.{Index}
use Rattle.awk_columns.specs.ListClass.{Class, list_type}

-- what is given for a list of some class whose items are of a type
pub data Giving : Type 0 where
  -- a list: its class, the type of its items, and its items
  lists : (Class → Class) → (DataType → DataType) → (DataType → List Value → List Value) → Giving
  -- a single value: its type, and the value
  singles : (DataType → DataType) → (DataType → List Value → Value) → Giving

pub record ListFunction : Type 0 where
  -- why the items' type is refused
  pub refusal : DataType → Option Refusal
  pub giving : Giving
  -- why the lists of one column, whose items are of the type, are refused
  pub spoil : DataType → List (List Value) → Option Spoil

-- no lists are refused for a place
abbrev pub NeverIndex : ListFunction → Type 0
NeverIndex f = (t : DataType) (ls : List (List Value)) → f.spoil t ls ≡ Some Index → ⊥

-- the type of the items of a list that is given, or that of a single value
abbrev pub made_type : Giving → DataType → DataType
made_type (lists class typ items) t = typ t
made_type (singles typ value) t = typ t

abbrev pub given_type : Giving → Class → DataType → DataType
given_type (lists class typ items) c t = list_type (class c) (typ t)
given_type (singles typ value) c t = typ t

abbrev pub given_value : Giving → DataType → List Value → Value
given_value (lists class typ items) t vs = list (values_from (items t vs))
given_value (singles typ value) t vs = value t vs

-- the class of a list that is given
abbrev pub given_class : Giving → Class → Class
given_class (lists class typ items) c = class c
given_class (singles typ value) c = c

abbrev pub gives_lists : Giving → Bool
gives_lists (lists class typ items) = true
gives_lists (singles typ value) = false
