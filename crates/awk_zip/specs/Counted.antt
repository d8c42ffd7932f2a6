-- How many items the lists of the first levels have together, inside rows and unions too.
use Rattle.std.specs.Prelude.{ℕ, suc, ◌-◌, ◌==◌, Bool, true, false, List, [], ◌∷◌, length}
use Rattle.std.specs.Prelude.{Option, Some, None, if◌then◌else◌}
use Rattle.awk_types.specs.DataType.{DataType, unknown, leaf, var, reg, rec, tup, opt, uni}
use Rattle.awk_types.specs.DataType.{DataTypes, no_types, type}
use Rattle.awk_types.specs.Gives.{◌or◌}
use Rattle.awk_types.specs.ItemLimit.{too_many}
use Rattle.awk_types.specs.Value.{Value}
use Rattle.awk_types.specs.declared.fault.Fault.{Fault}
use Rattle.awk_types.specs.declared.fault.Fault.TheVariants.{Size}
use Rattle.awk_layout.specs.Layout.{Layout}
use Rattle.awk_layout.specs.Typing.{array_type, array_items}
use Rattle.awk_columns.specs.Columns.{joined_items, present_values, part_values}
use Rattle.awk_columns.specs.Columns.{alternative_values}

-- each part by the function of its place, from place j on
abbrev pub across : List (List Value → Option Fault) → ℕ → List Value → Option Fault
across [] j vs = None
across (h ∷ hs) j vs = h (part_values j vs) or across hs (suc j) vs

-- each alternative by the function of its tag, from tag j on
abbrev pub among : List (List Value → Option Fault) → ℕ → List Value → Option Fault
among [] j vs = None
among (h ∷ hs) j vs = h (alternative_values j vs) or among hs (suc j) vs

-- the lists of one level, and those inside them by a function
abbrev pub inside : (List Value → Option Fault) → List Value → Option Fault
inside h vs = too_many (length (joined_items vs)) or h (joined_items vs)

-- the lists of the first k levels of a column
abbrev mutual
  pub lists_refused : ℕ → DataType → List Value → Option Fault
  lists_refused k unknown vs = None
  lists_refused k (leaf p) vs = None
  lists_refused k (var t) vs = if k == 0 then None else inside (lists_refused (k - 1) t) vs
  lists_refused k (reg n t) vs = if k == 0 then None else inside (lists_refused (k - 1) t) vs
  lists_refused k (rec ns ts) vs = across (each_refused k ts) 0 vs
  lists_refused k (tup ts) vs = across (each_refused k ts) 0 vs
  lists_refused k (opt t) vs = lists_refused k t (present_values vs)
  lists_refused k (uni ts) vs = among (each_refused k ts) 0 vs

  pub each_refused : ℕ → DataTypes → List (List Value → Option Fault)
  each_refused k no_types = []
  each_refused k (type t ts) = lists_refused k t ∷ each_refused k ts

-- ---- by columns

abbrev pub column_refused : ℕ → Layout → Option Fault
column_refused k y = lists_refused k (array_type y) (array_items y)

-- the first of columns that is refused
abbrev pub all_refused : ℕ → List Layout → Option Fault
all_refused k [] = None
all_refused k (y ∷ ys) = column_refused k y or all_refused k ys

abbrev pub size_if : Bool → Option Fault
size_if true = Some Size
size_if false = None
