-- The lengths of runs of equal neighbours.
use Rattle.std.specs.Prelude.{ℕ, suc, pos, Bool, false, List, [], ◌∷◌, length, map, sum}
use Rattle.std.specs.Prelude.{Some, None, Result, if◌then◌else◌}
use Rattle.std.specs.Ordering.{int_eq}
use Rattle.awk_types.specs.DataType.{leaf}
use Rattle.awk_types.specs.Datum.{Datum}
use Rattle.awk_types.specs.Value.{Value, int, truth}
use Rattle.awk_types.specs.declared.fault.Fault.{Fault}
use Rattle.awk_types.specs.declared.primitive.Primitive.TheVariants.{I64}
use Rattle.awk_layout.specs.Item.{agrees}
use Rattle.awk_list_functions.specs.Lifting.{deep}
use Rattle.awk_list_functions.specs.ListFunction.{ListFunction, lists}
use Rattle.awk_types.specs.Predicates.{is_leaf}
use Rattle.awk_list_functions.specs.Spoils.{too_many}
use Rattle.awk_list_functions.specs.declared.causes.Refusal.TheVariants as refused

-- whether two numbers or two truth values are the same
abbrev pub is_same : Value → Value → Bool
is_same (int a) (int b) = int_eq a b
is_same (truth a) (truth b) = agrees a b
is_same v w = false

-- one more item before a run of which the first item is known
abbrev pub longer : List ℕ → List ℕ
longer [] = []
longer (n ∷ ns) = suc n ∷ ns

-- how long each run of equal neighbours is
abbrev pub runs : List Value → List ℕ
runs [] = []
runs (v ∷ []) = 1 ∷ []
runs (v ∷ w ∷ vs) = if is_same v w then longer (runs (w ∷ vs)) else 1 ∷ runs (w ∷ vs)

-- every list of the operand is counted
abbrev pub run_lengths_function : ListFunction
run_lengths_function = record {
  refusal = λ t. if is_leaf t then None else Some refused.WrongType;
  giving = lists (λ class. None) (λ t. leaf I64) (λ t vs. map (λ (n : ℕ). int (pos n)) (runs vs));
  spoil = λ t ls. too_many (sum (map length ls));
}

-- the runs of each innermost list
abbrev pub run_lengths_of : Datum → Result Datum Fault
run_lengths_of d = deep run_lengths_function d
