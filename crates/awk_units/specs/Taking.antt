-- What taking the next unit of a session gives.
use Rattle.std.specs.Prelude.{◌≡◌, ◌≢◌, ◌⊎◌, ◌<◌, ◌≤◌, ℕ, true, false, List, [], ◌++◌, length}
use Rattle.std.specs.Prelude.{Option, Some, None, Result, Ok, Err}
use Rattle.std.specs.Io.KnownBytes.{Consumes}
use Rattle.awk_edge.specs.Lines.{lines_limit}
use Rattle.awk_edge.specs.Next.{TakesLine, HasNone, FailsToRead, IsTooLong}
use Rattle.awk_edge.specs.Raw.{TakesBytes}
use Rattle.awk_edge.specs.Reading.{Reading}
use Rattle.awk_edge.specs.Units.{raw_limit, Framing}
use Rattle.awk_edge.specs.declared.lines.LineFault.{LineFault}
use Rattle.awk_edge.specs.declared.lines.LineFault.TheVariants.{Read, NoMemory, LineTooLong}
use Rattle.awk_edge.specs.declared.lines.LineFault.TheVariants.{TooManyLines}
use Rattle.awk_units.specs.declared.unit.UnitBytes.{UnitBytes}

-- A line was taken, and behind it as many raw bytes as it asks for, or all that are left. Nothing
-- is read behind a last line without its end.
pub record TakesUnit {R : Type 0} (p : Framing R) (r : R) (left0 left1 : Option (List ℕ))
    (old new : Reading) (given line raw : List ℕ) : Type 0 where
  pub between : Option (List ℕ)
  pub mid : Reading
  pub first : List ℕ
  pub more : List ℕ
  pub all : given ≡ first ++ more
  pub reads_line : Consumes left0 between first
  pub takes_line : TakesLine between old mid first line
  pub few : p.asked r line ≤ raw_limit
  pub reads_raw : Consumes between left1 more
  pub takes_raw : TakesBytes left1 mid new more raw (p.asked r line)
  pub last : mid.is_ended ≡ true → (raw ≡ []) × (more ≡ []) × (left1 ≡ between)

-- the source failed before the raw bytes of a line were all there
pub record CutsRaw {R : Type 0} (p : Framing R) (r : R) (old : Reading) (given : List ℕ)
    : Type 0 where
  pub between : Option (List ℕ)
  pub mid : Reading
  pub first : List ℕ
  pub more : List ℕ
  pub line : List ℕ
  pub all : given ≡ first ++ more
  pub takes_line : TakesLine between old mid first line
  pub going : mid.is_ended ≡ false
  pub few : p.asked r line ≤ raw_limit
  pub fewer : length (mid.held ++ more) < p.asked r line

-- a line asks for more raw bytes than there may be
pub record AsksTooMuch {R : Type 0} (p : Framing R) (r : R) (left1 : Option (List ℕ))
    (old : Reading) (given : List ℕ) : Type 0 where
  pub mid : Reading
  pub line : List ℕ
  pub takes_line : TakesLine left1 old mid given line
  pub many : raw_limit < p.asked r line

-- what a call answers of the bytes held before it and those that the source gave in it
abbrev pub AnswersUnit : {R : Type 0} → Framing R → R → Option (List ℕ) → Option (List ℕ) → Reading
    → Reading → List ℕ → Result (Option UnitBytes) LineFault → Type 0
AnswersUnit p r left0 left1 old new given (Ok (Some u)) =
    TakesUnit p r left0 left1 old new given u.line.items u.raw.items
AnswersUnit p r left0 left1 old new given (Ok None) = HasNone left1 old new given
AnswersUnit p r left0 left1 old new given (Err Read) =
    FailsToRead old (old.held ++ given) ⊎ CutsRaw p r old given
AnswersUnit p r left0 left1 old new given (Err LineTooLong) =
    IsTooLong old (old.held ++ given) ⊎ AsksTooMuch p r left1 old given
AnswersUnit p r left0 left1 old new given (Err TooManyLines) =
    (old.taken ≡ lines_limit) × (old.held ++ given ≢ [])
AnswersUnit p r left0 left1 old new given (Err NoMemory) = Unit {0}

-- the bytes that the source gave in the call, and what it says of them
pub record NextUnit {R : Type 0} (p : Framing R) (r : R) (left0 left1 : Option (List ℕ))
    (old new : Reading) (result : Result (Option UnitBytes) LineFault) : Type 0 where
  pub given : List ℕ
  pub consumes : Consumes left0 left1 given
  pub answer : AnswersUnit p r left0 left1 old new given result

-- so many raw bytes are asked for, or they are more than there may be
abbrev pub NeedsAtMost : ℕ → Result ℕ LineFault → Type 0
NeedsAtMost asked (Ok n) = (n ≡ asked) × (n ≤ raw_limit)
NeedsAtMost asked (Err LineTooLong) = raw_limit < asked
NeedsAtMost asked (Err NoMemory) = Unit {0}
NeedsAtMost asked (Err Read) = ⊥
NeedsAtMost asked (Err TooManyLines) = ⊥
