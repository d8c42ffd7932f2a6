-- How the bytes of a session are parted into units: a line, and the raw bytes that follow it.
use Rattle.std.specs.Prelude.{ℕ, Bool, ◌==◌, ◌||◌, List, sum_by, Result, Ok, if◌then◌else◌}
use Rattle.std.specs.List.{list_all}
use Rattle.awk_edge.specs.Units.{Framing, Framed, units, ended_units}
use Rattle.awk_query.specs.Line.{Line, load, parts, session, line_said}
use Rattle.awk_expr.specs.Told.{Unread}
use Rattle.awk_query.specs.declared.reading.RawPart.{RawPart}
use Rattle.awk_query.specs.declared.reading.Reading.{Reading}
use Rattle.awk_query.specs.declared.reading.Reading.TheVariants.{First, One, Two}

-- only spaces, tabs and carriage returns
abbrev pub is_blank : List ℕ → Bool
is_blank line = list_all (λ b. b == 32 || b == 9 || b == 13) line

-- how many bytes the buffers have together
abbrev pub total : List RawPart → ℕ
total ps = sum_by (λ p. p.count) ps

-- how many raw bytes a line asks for, by what it is read as
abbrev pub asked_by : Result Line Unread → ℕ
asked_by (Ok (load n form length big (parts ps))) = total ps
asked_by said = 0

-- how the lines behind one that is not blank are read
abbrev pub reading_behind : Reading → Result Line Unread → Reading
reading_behind First (Ok session) = Two
reading_behind First said = One
reading_behind One said = One
reading_behind Two said = Two

-- a blank line asks for nothing, and changes nothing
unfoldable pub raw_asked : Reading → List ℕ → ℕ
raw_asked r line = if is_blank line then 0 else asked_by (line_said r line)

unfoldable pub read_behind : Reading → List ℕ → Reading
read_behind r line = if is_blank line then r else reading_behind r (line_said r line)

abbrev pub session_framing : Framing Reading
session_framing = record { asked = raw_asked; after = read_behind }

-- the units of a session
abbrev pub session_units : List ℕ → List Framed
session_units bytes = units session_framing First bytes

-- those that are whole and within the limits, up to the first that is not
abbrev pub ended_session : List ℕ → List Framed
ended_session bytes = ended_units session_framing First bytes
