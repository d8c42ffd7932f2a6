-- Edges of intervals: at least two whole numbers that rise.
use Rattle.std.specs.Prelude.{ℕ, ◌+◌, ℤ, pos, int_lt, int_le, nat_le, Bool, true, ◌&&◌}
use Rattle.std.specs.Prelude.{List, [], ◌∷◌, length, get_or}

-- whether each number is greater than the one before, the first than a given one
abbrev pub rise_above : ℤ → List ℤ → Bool
rise_above e [] = true
rise_above e (f ∷ es) = int_lt e f && rise_above f es

abbrev pub are_rising : List ℤ → Bool
are_rising [] = true
are_rising (e ∷ es) = rise_above e es

abbrev pub are_edges : List ℤ → Bool
are_edges es = nat_le 2 (length es) && are_rising es

abbrev pub edge_at : List ℤ → ℕ → ℤ
edge_at es i = get_or es i (pos 0)

-- whether a number lies in interval i: from edge i on, below the next
abbrev pub lies_in : List ℤ → ℕ → ℤ → Bool
lies_in es i z = int_le (edge_at es i) z && int_lt z (edge_at es (i + 1))
