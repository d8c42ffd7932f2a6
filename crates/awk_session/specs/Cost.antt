-- What the units of a session of loads and views cost, in steps.
use Rattle.std.specs.Prelude.{ℕ, ◌+◌, ◌*◌, ◌&&◌, Bool, true, false, List, [], ◌∷◌, length, Option}
use Rattle.std.specs.Prelude.{Some, None, is_some, if◌then◌else◌}
use Rattle.std.specs.Option.{option_map_or}
use Rattle.std.specs.Result.{result_ok}
use Rattle.serde_json.specs.Data.{Data}
use Rattle.awk_types.specs.DataType.{Name}
use Rattle.awk_edge.specs.Units.{Framed}
use Rattle.awk_query.specs.Line.{Line, load, session, bind, values, show, type_of, pack, names}
use Rattle.awk_query.specs.Line.{line_said}
use Rattle.awk_query.specs.declared.reading.Reading.{Reading}
use Rattle.awk_query.specs.declared.reading.Reading.TheVariants.{First}
use Rattle.awk_eval.specs.Bindings as bindings
use Rattle.awk_eval.specs.Variables.{Environment}
use Rattle.awk_eval.specs.Views.{Size, Sizes, size_or_none, size_at, View, view_of}
use Rattle.awk_answer.specs.Sending as sending
use Rattle.awk_load_line.specs.LoadCost.{form_width, form_height, load_cost}
use Rattle.awk_framing.specs.Framing.{is_blank, read_behind}
use Rattle.awk_session.specs.Replies.{unit_step}
use Rattle.awk_units.specs.Runs.{Step}
use Rattle.awk_session.specs.State as states
use Rattle.awk_session.specs.State.{State}

-- ---- sizes

-- the size of a form: its nodes and inner numbers, and those on its longest path
abbrev pub form_size : Data → Size
form_size d = record { width = form_width d; height = form_height d }

-- the size of the variable of a view
abbrev pub view_size : Sizes → Option View → Size
view_size sizes None = size_or_none None
view_size sizes (Some v) = size_at sizes v.name

-- ---- lines

-- four for each node of its variable, each time that a view takes it
abbrev pub view_cost : Sizes → Option View → ℕ
view_cost sizes None = 0
view_cost sizes (Some v) = 4 * (size_at sizes v.name).width * v.count

-- an answer of so many bytes, that shows an array
abbrev pub text_cost : Size → ℕ → ℕ
text_cost s bytes = sending.text_cost s.width s.height bytes

-- whether a line has a cost
abbrev pub has_cost : Line → Bool
has_cost (load n form count big buffers) = true
has_cost session = true
has_cost (bind n e) = is_some (view_of e)
has_cost (values n list) = false
has_cost (show e) = is_some (view_of e)
has_cost (type_of e) = is_some (view_of e)
has_cost (pack e) = false
has_cost names = true

-- what a line costs before its answer is put, where it has so many bytes with those behind it
abbrev pub made_cost : Sizes → ℕ → Line → ℕ
made_cost sizes bytes (load n form count big buffers) = load_cost (form_width form) bytes
made_cost sizes bytes session = 0
made_cost sizes bytes (bind n e) = view_cost sizes (view_of e)
made_cost sizes bytes (values n list) = 0
made_cost sizes bytes (show e) = view_cost sizes (view_of e)
made_cost sizes bytes (type_of e) = view_cost sizes (view_of e)
made_cost sizes bytes (pack e) = 0
made_cost sizes bytes names = 0

-- and what an answer of so many bytes costs
abbrev pub shown_cost : Sizes → ℕ → Line → ℕ
shown_cost sizes answered (show e) = text_cost (view_size sizes (view_of e)) answered
shown_cost sizes answered _ = 0

abbrev pub line_cost : Sizes → ℕ → ℕ → Line → ℕ
line_cost sizes bytes answered line = made_cost sizes bytes line + shown_cost sizes answered line

-- the line that bytes are read as, where they are not blank and are one
unfoldable pub line_in : Reading → List ℕ → Option Line
line_in r bytes = if is_blank bytes then None else result_ok (line_said r bytes)

-- what is blank, no JSON or no line has a cost too, which is nothing
abbrev pub is_plain : Reading → List ℕ → Bool
is_plain r bytes = option_map_or has_cost (line_in r bytes) true

abbrev pub answer_length : Option (List ℕ) → ℕ
answer_length None = 0
answer_length (Some text) = length text

-- the cost of a line, by the sizes of the variables, its bytes with those behind it, and its answer
abbrev pub cost_of : Sizes → Option Line → ℕ → Option (List ℕ) → ℕ
cost_of sizes line bytes answer =
    option_map_or (line_cost sizes bytes (answer_length answer)) line 0

-- the bytes of a line and those behind it
abbrev pub unit_bytes : Framed → ℕ
unit_bytes u = length u.line + length u.raw

-- ---- sessions

-- a name gets a size, where the answer is no fault
abbrev pub sized_unless : Bool → Name → Size → Sizes → Sizes
sized_unless is_fault n s sizes = if is_fault then sizes else bindings.bind n s sizes

-- A load gives its name the size of its form, and a let that of its view's variable.
abbrev pub sizes_by : Line → Bool → Sizes → Sizes
sizes_by (load n form count big buffers) is_fault sizes =
    sized_unless is_fault n (form_size form) sizes
sizes_by (bind n e) is_fault sizes =
    sized_unless is_fault n (view_size sizes (view_of e)) sizes
sizes_by _ is_fault sizes = sizes

abbrev pub sizes_after : Sizes → Option Line → Bool → Sizes
sizes_after sizes line is_fault = option_map_or (λ l. sizes_by l is_fault sizes) line sizes

-- where a session stands, with the sizes that its costs count with
pub record Standing : Type 0 where
  pub state : State Environment
  pub sizes : Sizes

abbrev pub at_start : Standing
at_start = record { state = states.at_start; sizes = [] }

-- the line of a unit where the session stands
abbrev pub line_at : Standing → Framed → Option Line
line_at s u = line_in s.state.reading u.line

abbrev pub moved : Standing → Option Line → Step (State Environment) → Standing
moved s line t = record { state = t.after; sizes = sizes_after s.sizes line t.is_fault }

-- a unit later
abbrev pub next : Standing → Framed → Standing
next s u = moved s (line_at s u) (unit_step s.state u)

abbrev pub standing_after : Standing → List Framed → Standing
standing_after s [] = s
standing_after s (u ∷ us) = standing_after (next s u) us

abbrev pub unit_cost : Standing → Framed → ℕ
unit_cost s u = cost_of s.sizes (line_at s u) (unit_bytes u) (unit_step s.state u).answer

abbrev pub costs : Standing → List Framed → ℕ
costs s [] = 0
costs s (u ∷ us) = unit_cost s u + costs (next s u) us

-- the cost of a session: that of its units together
abbrev pub cost : List Framed → ℕ
cost us = costs at_start us

-- whether each unit has a cost, where the first line is read so
abbrev pub plain_from : Reading → List Framed → Bool
plain_from r [] = true
plain_from r (u ∷ us) = is_plain r u.line && plain_from (read_behind r u.line) us

abbrev pub are_plain : List Framed → Bool
are_plain us = plain_from First us
