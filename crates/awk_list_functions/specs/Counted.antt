-- The lists that a function gives, counted together.
use Rattle.std.specs.Prelude.{◌≡◌, List, Option, None, map, sum, length}
use Rattle.awk_types.specs.DataType.{DataType}
use Rattle.awk_types.specs.Value.{Value}
use Rattle.awk_list_functions.specs.declared.causes.Spoil.{Spoil}
use Rattle.awk_list_functions.specs.ListFunction.{Giving, lists, singles, ListFunction}
use Rattle.awk_list_functions.specs.Spoils.{too_many}

abbrev pub counted : (DataType → List Value → List Value) → DataType → List (List Value)
    → Option Spoil
counted items t ls = too_many (sum (map (λ l. length (items t l)) ls))

-- why lists are refused for the number of items that are given; single values never are
abbrev pub given_spoil : Giving → DataType → List (List Value) → Option Spoil
given_spoil (lists class typ items) t ls = counted items t ls
given_spoil (singles typ value) t ls = None

-- lists are refused for the number of items that are given alone
abbrev pub CountsGiven : ListFunction → Type 0
CountsGiven f = (t : DataType) (ls : List (List Value)) → f.spoil t ls ≡ given_spoil f.giving t ls
