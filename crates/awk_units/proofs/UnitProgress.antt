-- How far the reading of a session of units has come.
use Rattle.std.proofs.Common.{◌≡◌, ◌⊎◌, ◌≤◌, ℕ, true, false, List, ◌++◌, length, Option}
use Rattle.std.specs.Io.KnownBytes.{Consumes, IsAtEnd}
use Rattle.std.specs.List.{AllByRecursion}
use Rattle.awk_edge.specs.Lines.{lines_limit}
use Rattle.awk_edge.specs.Reading.{Reading}
use Rattle.awk_edge.specs.Units.{Framing, Framed, units, ended_units, joined_units, AreUnits}
use Rattle.awk_edge.specs.UnitLimits.{IsSmall}

-- what the source gave is the units that were taken, all whole, and the bytes that are held
pub record IsMidway {R : Type 0} (p : Framing R) (r : R) (given : List ℕ) (reading : Reading)
    (taken : List Framed) : Type 0 where
  pub bytes : given ≡ joined_units taken ++ reading.held
  pub are_units : AreUnits p r taken

-- the source has no more, and all units were taken
pub record IsDone {R : Type 0} (p : Framing R) (r : R) (left : Option (List ℕ)) (given : List ℕ)
    (taken : List Framed) : Type 0 where
  pub at_end : IsAtEnd left
  pub units : units p r given ≡ taken
  pub small : AllByRecursion IsSmall taken

-- the units that were taken of what the source gave
pub record Taken {R : Type 0} (p : Framing R) (r : R) (left0 left : Option (List ℕ))
    (reading : Reading) (taken : List Framed) : Type 0 where
  pub given : List ℕ
  pub reads : Consumes left0 left given
  pub count : length taken ≡ reading.taken
  pub most : length taken ≤ lines_limit
  pub is_open : reading.is_open ≡ true
  pub midway : reading.is_ended ≡ false → IsMidway p r given reading taken
  pub done : reading.is_ended ≡ true → IsDone p r left given taken

-- the units that may be answered: those that are whole within the limits, or all where the source
-- has nothing left
abbrev pub IsToAnswer : {R : Type 0} → Framing R → R → Option (List ℕ) → List ℕ → List Framed
    → Type 0
IsToAnswer p r left given us =
    (us ≡ ended_units p r given) ⊎ ((us ≡ units p r given) × IsAtEnd left)
