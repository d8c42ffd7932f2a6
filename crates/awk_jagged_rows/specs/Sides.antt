-- Rows in pairs, each a list or null.
use Rattle.std.specs.Prelude.{ℕ, Bool, true, false, List, []}
use Rattle.awk_types.specs.Value.{Value, list, value_list}

-- the list at each place
abbrev pub ListsBy : Type 0
ListsBy = ℕ → List Value

-- the two lists of a row, which are empty where one of both is null
abbrev pub sides : Value → Value → List Value × List Value
sides (list vs) (list ws) = (value_list vs, value_list ws)
sides v w = ([], [])

-- neither of two rows is null
abbrev pub are_lists : Value → Value → Bool
are_lists (list vs) (list ws) = true
are_lists v w = false
