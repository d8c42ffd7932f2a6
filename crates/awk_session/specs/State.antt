-- Where a session stands between two lines.
use Rattle.std.specs.Prelude.{◌≡◌, ℕ, ◌==◌, [], if◌then◌else◌, refl}
use Rattle.std.specs.Coded.{Coded, code_by, coded×, coded_ℕ}
use Rattle.awk_query.specs.declared.reading.Reading.{Reading}
use Rattle.awk_query.specs.declared.reading.Reading.TheVariants.{First, One, Two}
use Rattle.awk_eval.specs.Variables.{Environment, Variables, denoted, coded_variables}

-- how the next line is read, and the variables
pub record State (E : Type 0) : Type 0 where
  pub reading : Reading
  pub variables : E

-- no line came yet
abbrev pub at_start : State Environment
at_start = record { reading = First; variables = [] }

-- with what the variables stand for
abbrev pub denoted_state : State Variables → State Environment
denoted_state s = record { reading = s.reading; variables = denoted s.variables }

-- ---- states as data that are told apart

abbrev reading_to : Reading → ℕ
reading_to First = 0
reading_to One = 1
reading_to Two = 2

abbrev reading_from : ℕ → Reading
reading_from n = if n == 0 then First else if n == 1 then One else Two

pub reading_same : (r : Reading) → reading_from (reading_to r) ≡ r
reading_same First = refl
reading_same One = refl
reading_same Two = refl

abbrev pub coded_reading : Coded Reading
coded_reading = code_by ℕ coded_ℕ reading_to reading_from reading_same

abbrev pub coded_state : Coded (State Variables)
coded_state = code_by (Reading × Variables) (coded× coded_reading coded_variables)
    (λ s. (s.reading, s.variables)) (λ p. record { reading = p.0; variables = p.1 }) (λ _. refl)
