-- What an operation takes: a datum, or a whole number that takes its type from where it stands.
use Rattle.std.specs.Prelude.{◌≡◌, ℕ, suc, Bool, true, false, ◌==◌, List, [], ◌∷◌, Option, Some}
use Rattle.std.specs.Prelude.{None}
use Rattle.std.specs.Prelude.{option_map, if◌then◌else◌}
use Rattle.awk_types.specs.Datum.{Datum}
use Rattle.awk_layout.specs.Filler.{Filler, literal, datum}
use Rattle.awk_expr.specs.declared.op.Op.{Op}
use Rattle.awk_expr.specs.declared.op.Op.TheVariants as op

abbrev pub Operand : Type 0
Operand = Filler

-- Whether a whole number as the k-th expression of an operation takes its type from there: as an
-- operand of arithmetic or of a comparison, as one of the two that `where` chooses from, and as
-- what fills nulls.
abbrev pub takes_literal : Op → ℕ → Bool
takes_literal (op.Calculate o) k = true
takes_literal (op.Test how) k = true
takes_literal op.Choose k = if k == 0 then false else true
takes_literal op.FillNone k = k == 1
takes_literal _ k = false

-- a whole number stands only where it takes its type from there
abbrev pub IsTakenAs : Bool → Operand → Type 0
IsTakenAs is_literal (datum d) = Unit {0}
IsTakenAs is_literal (literal z) = is_literal ≡ true

-- and so of all, the first of which is the k-th expression
abbrev pub AreTaken : (ℕ → Bool) → ℕ → List Operand → Type 0
AreTaken takes k [] = Unit {0}
AreTaken takes k (x ∷ operands) = IsTakenAs (takes k) x × AreTaken takes (suc k) operands

-- the only operand, where it is a datum
abbrev pub only_in : List Operand → Option Datum
only_in (datum d ∷ []) = Some d
only_in _ = None

-- the two operands, where both are data
abbrev pub both_in : List Operand → Option (Datum × Datum)
both_in (datum d ∷ datum e ∷ []) = Some (d, e)
both_in _ = None

-- the two operands, where the first is a datum
abbrev pub first_in : List Operand → Option (Datum × Operand)
first_in (datum d ∷ x ∷ []) = Some (d, x)
first_in _ = None

-- the two operands
abbrev pub two_in : List Operand → Option (Operand × Operand)
two_in (x ∷ y ∷ []) = Some (x, y)
two_in _ = None

-- the three operands, where the first is a datum
abbrev pub three_in : List Operand → Option (Datum × Operand × Operand)
three_in (datum c ∷ x ∷ y ∷ []) = Some (c, x, y)
three_in _ = None

-- one datum more
abbrev pub one_more : Operand → Option (List Datum) → Option (List Datum)
one_more (datum d) found = option_map (λ ds. d ∷ ds) found
one_more (literal z) found = None

-- all operands, where all are data
abbrev pub all_in : List Operand → Option (List Datum)
all_in [] = Some []
all_in (x ∷ xs) = one_more x (all_in xs)

-- all of some operands
abbrev pub data_in : List Operand → Option (List Datum)
data_in [] = None
data_in (x ∷ xs) = all_in (x ∷ xs)
