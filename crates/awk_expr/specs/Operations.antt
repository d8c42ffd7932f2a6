-- The operations: their names and what they take.
use Rattle.std.specs.Prelude.{ℕ, ◌==◌, ◌&&◌, List, [], ◌∷◌, length, map, Option, Some}
use Rattle.std.specs.Prelude.{None, if◌then◌else◌}
use Rattle.std.specs.Borrow.{Bor}
use Rattle.awk_types.specs.DataType.{Name}
use Rattle.awk_types.specs.Names.{same_name}
use Rattle.awk_expr.specs.declared.op.Op.{Op}
use Rattle.awk_expr.specs.declared.kind.ArgKind.{ArgKind}
use Rattle.awk_expr.specs.declared.operations.TheConstants.{OPERATIONS}

-- a name, its operation, and what the arguments are
abbrev pub Row : Type 0
Row = Name × Op × List ArgKind

-- those of the table in code: a name stands once for each number of arguments
abbrev pub operations : List Row
operations = map (λ r. (r.0.now, r.1, r.2.now)) OPERATIONS

-- an operation, and what its arguments are
abbrev pub Found : Type 0
Found = Op × List ArgKind

-- the first row with this name and so many arguments
abbrev pub row_among : List Row → Name → ℕ → Option Found
row_among [] name count = None
row_among (r ∷ rs) name count =
    if (length r.2 == count) && same_name r.0 name then Some (r.1, r.2) else row_among rs name count

-- the operation of a name that takes so many arguments, and what each of them is
unfoldable pub row_of : Name → ℕ → Option Found
row_of name count = row_among operations name count

-- the rows of a table in code, and what is found there
abbrev pub rows_of : List (Bor Name × Op × Bor (List ArgKind)) → List Row
rows_of rows = map (λ r. (r.0.now, r.1, r.2.now)) rows

abbrev pub found_of : Op × Bor (List ArgKind) → Found
found_of found = (found.0, found.1.now)
