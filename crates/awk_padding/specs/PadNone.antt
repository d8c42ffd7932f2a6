-- Lists with nulls at their end.
use Rattle.std.specs.Prelude.{ℕ, max, Bool, true, false, List, map, length, get_or, ℤ, Some}
use Rattle.std.specs.Prelude.{None, Result}
use Rattle.std.specs.List.{range_with_len}
use Rattle.awk_types.specs.DataType.{opt}
use Rattle.awk_types.specs.Datum.{Datum}
use Rattle.awk_types.specs.Value.{Value, null}
use Rattle.awk_types.specs.declared.fault.Fault.{Fault}
use Rattle.awk_list_functions.specs.Counted.{counted}
use Rattle.awk_list_functions.specs.Lifting.{lift}
use Rattle.awk_columns.specs.ListClass.{Class}
use Rattle.awk_list_functions.specs.ListFunction.{ListFunction, lists}

-- how long a list of m items becomes: at least n, and exactly n where lists are cut
abbrev pub padded_length : ℕ → Bool → ℕ → ℕ
padded_length n true m = n
padded_length n false m = max n m

abbrev pub padded_class : ℕ → Bool → Class
padded_class n true = Some n
padded_class n false = None

-- the items by their places, and null at every place past them
abbrev pub padded : ℕ → Bool → List Value → List Value
padded n clip vs =
    map (λ i. get_or vs i null) (range_with_len 0 (padded_length n clip (length vs)))

abbrev pub pad_none_function : ℕ → Bool → ListFunction
pad_none_function n clip = record {
  refusal = λ t. None;
  giving = lists (λ class. padded_class n clip) (λ t. opt t) (λ t vs. padded n clip vs);
  spoil = counted (λ t vs. padded n clip vs);
}

-- each list at an axis with nulls at its end up to n items
abbrev pub pad_none_of : ℕ → ℤ → Bool → Datum → Result Datum Fault
pad_none_of n axis clip d = lift (pad_none_function n clip) axis d
