-- What a run over a session gives.
use Rattle.std.specs.Prelude.{◌≡◌, ◌⊎◌, ◌≤◌, ℕ, ◌+◌, Bool, true, false, List, [], ◌∷◌, ◌++◌, Option}
use Rattle.std.specs.Prelude.{Some, IsTrue}
use Rattle.std.specs.Io.KnownBytes.{Consumes, Appends, IsAtEnd}
use Rattle.awk_edge.specs.UnitLimits.{HasLargeUnit, IsLargeForGood, HasTooManyUnits, IsWithinUnits}
use Rattle.awk_edge.specs.Units.{Framed}
use Rattle.awk_query.specs.declared.reading.Reading.TheVariants.{First}
use Rattle.awk_framing.specs.Framing.{is_blank, session_framing, session_units, ended_session}
use Rattle.awk_session.specs.Replies.{answers, has_fault, answer_count}
use Rattle.awk_units.specs.Runs.{line_ends}
use Rattle.awk_session.specs.Cost.{are_plain, cost}
use Rattle.awk_run.specs.Flushes.{fronts, Flushes}
use Rattle.awk_run.specs.declared.run.Status.{Status}
use Rattle.awk_run.specs.declared.run.Status.TheVariants.{Fine, Faults, Words, Read, Write, Memory}
use Rattle.awk_run.specs.declared.run.Status.TheVariants.{LineTooLong, TooManyLines}

-- the number that the program ends with
abbrev pub number_of : Status → ℕ
number_of Fine = 0
number_of Faults = 1
number_of Words = 2
number_of Read = 3
number_of Write = 4
number_of Memory = 5
number_of LineTooLong = 6
number_of TooManyLines = 7

-- all units were answered
abbrev pub IsComplete : Status → Type 0
IsComplete status = (status ≡ Fine) ⊎ (status ≡ Faults)

-- no limit on lines or on raw bytes is passed
abbrev pub IsWithin : List ℕ → Type 0
IsWithin given = IsWithinUnits session_framing First given

-- a unit is too large
abbrev pub HasLarge : List ℕ → Type 0
HasLarge given = HasLargeUnit session_framing First given

-- there are more units than there may be
abbrev pub HasTooMany : List ℕ → Type 0
HasTooMany given = HasTooManyUnits session_framing First given

-- A unit is too large: its line is whole, or too long whatever follows, or nothing follows.
pub record IsTooLarge (left : Option (List ℕ)) (given : List ℕ) : Type 0 where
  pub unit : HasLarge given
  pub settled : IsLargeForGood unit ⊎ IsAtEnd left

-- the units that may be answered: those that are whole within the limits, or all where the source
-- has nothing left
abbrev pub MayBeAnswered : Option (List ℕ) → List ℕ → List Framed → Type 0
MayBeAnswered left given us =
    (us ≡ ended_session given) ⊎ ((us ≡ session_units given) × IsAtEnd left)

-- The answers to some units were written: they have a line end for each unit whose line is not
-- blank, and the sink was flushed at each.
pub record AreAnswered (us : List Framed) (written : List ℕ) (flushed : List (List ℕ))
    : Type 0 where
  pub answers : written ≡ answers us
  pub count : line_ends written ≡ answer_count us
  pub flushes : flushed ≡ fronts written

-- the source has nothing left, and all units were answered
pub record IsWhole (left : Option (List ℕ)) (given written : List ℕ) (flushed : List (List ℕ))
    (some_fault : Bool) : Type 0 where
  pub at_end : IsAtEnd left
  pub within : IsWithin given
  pub answers : AreAnswered (session_units given) written flushed
  pub faults : has_fault (session_units given) ≡ some_fault

-- the first units were answered
pub record HasFirstAnswers (left : Option (List ℕ)) (given written : List ℕ)
    (flushed : List (List ℕ)) : Type 0 where
  pub front : List Framed
  pub rest : List Framed
  pub units : MayBeAnswered left given (front ++ rest)
  pub answers : AreAnswered front written flushed

-- The first units were answered, and of the next answer a part was written, or all of it. It was
-- not flushed.
pub record IsCut (left : Option (List ℕ)) (given written : List ℕ) (flushed : List (List ℕ))
    : Type 0 where
  pub front : List Framed
  pub unit : Framed
  pub rest : List Framed
  pub units : MayBeAnswered left given (front ++ unit ∷ rest)
  pub some : is_blank unit.line ≡ false
  pub whole : List ℕ
  pub part : List ℕ
  pub after : List ℕ
  pub first : AreAnswered front whole flushed
  pub bytes : written ≡ whole ++ part
  pub next : answers (front ++ unit ∷ []) ≡ written ++ after

-- what each status says of the bytes that the source gave, those that were written, and what of
-- these had been written at each flush
abbrev pub Says : Status → Option (List ℕ) → List ℕ → List ℕ → List (List ℕ) → Type 0
Says Fine left given written flushed = IsWhole left given written flushed false
Says Faults left given written flushed = IsWhole left given written flushed true
Says Words left given written flushed = ⊥
Says Read left given written flushed = AreAnswered (ended_session given) written flushed
Says Write left given written flushed = IsCut left given written flushed
Says Memory left given written flushed = HasFirstAnswers left given written flushed
Says LineTooLong left given written flushed =
    AreAnswered (ended_session given) written flushed × IsTooLarge left given
Says TooManyLines left given written flushed =
    AreAnswered (ended_session given) written flushed × HasTooMany given

-- The bytes that the source gave, those that were written and what of these had been written at
-- each flush, and what the status says of them.
pub record Session (left0 left1 written0 written1 : Option (List ℕ))
    (flushes0 flushes1 : List (Option (List ℕ))) (steps0 steps1 : ℕ) (status : Status)
    : Type 0 where
  pub given : List ℕ
  pub written : List ℕ
  pub flushed : List (List ℕ)
  pub reads : Consumes left0 left1 given
  pub writes : Appends written0 written1 written
  pub flushes : Flushes written0 flushes0 flushes1 flushed
  pub says : Says status left1 given written flushed
  -- a passed limit is told, unless memory was wanting or the sink failed before
  pub large : (h : HasLarge given) → IsLargeForGood h
      → (status ≡ LineTooLong) ⊎ (status ≡ Memory) ⊎ (status ≡ Write)
  pub many : HasTooMany given → (status ≡ TooManyLines) ⊎ (status ≡ Memory) ⊎ (status ≡ Write)
  -- so is one that a last line without its end passes, unless reading failed
  pub last : HasLarge given → IsAtEnd left1
      → (status ≡ LineTooLong) ⊎ (status ≡ Read) ⊎ (status ≡ Memory) ⊎ (status ≡ Write)
  -- Where the source has nothing left and all units were answered, the run is complete, unless
  -- memory was wanting or reading failed.
  pub whole : IsAtEnd left1 → IsWithin given → AreAnswered (session_units given) written flushed
      → IsComplete status ⊎ (status ≡ Read) ⊎ (status ≡ Memory)
  -- where each unit of these bytes has a cost, the run takes no more than they cost together
  pub cost : IsTrue (are_plain (session_units given))
      → steps1 ≤ steps0 + cost (session_units given)

-- where the bytes given are within the limits, the answers to all their units were written
pub record Completes (left0 left1 written0 written1 : Option (List ℕ))
    (status : Status) : Type 0 where
  pub given : List ℕ
  pub written : List ℕ
  pub reads : Consumes left0 left1 given
  pub writes : Appends written0 written1 written
  pub done : IsWithin given → IsComplete status
  pub answers : IsWithin given → written ≡ answers (session_units given)

-- a made session ends only so
abbrev pub IsMadeEnd : Status → Type 0
IsMadeEnd Fine = Unit {0}
IsMadeEnd Faults = Unit {0}
IsMadeEnd Words = ⊥
IsMadeEnd Read = ⊥
IsMadeEnd Write = Unit {0}
IsMadeEnd Memory = Unit {0}
IsMadeEnd LineTooLong = ⊥
IsMadeEnd TooManyLines = ⊥

-- What was written of the answers to a made session and what of it had been written at each flush,
-- and what the status says of them: its bytes are at hand, so that nothing is left of them to read.
pub record MadeSession (made : List ℕ) (written0 written1 : Option (List ℕ))
    (flushes0 flushes1 : List (Option (List ℕ))) (steps0 steps1 : ℕ) (status : Status)
    : Type 0 where
  pub written : List ℕ
  pub flushed : List (List ℕ)
  pub writes : Appends written0 written1 written
  pub flushes : Flushes written0 flushes0 flushes1 flushed
  pub says : Says status (Some []) made written flushed
  pub ends : IsMadeEnd status
  -- where all units were answered, the run is complete, unless memory was wanting
  pub whole : AreAnswered (session_units made) written flushed
      → IsComplete status ⊎ (status ≡ Memory)
  -- where each of its units has a cost, the run takes no more than they cost together
  pub cost : IsTrue (are_plain (session_units made)) → steps1 ≤ steps0 + cost (session_units made)
