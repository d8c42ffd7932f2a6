-- The answers to a few worked sessions, computed. What a run answers is these definitions, so the
-- stored session of the examples shows the others.
use Rattle.std.proofs.Common.{◌≡◌, ℕ, true, false, List, [], ◌∷◌, ◌++◌, length, codes, refl}
use Rattle.std.specs.Char.{encode_utf8}
use Rattle.std.specs.Fmt.{digits}
use Rattle.std.specs.Str.{IsUtf8}
use Rattle.std.proofs.lemmas.Str.{is_utf8-from_IsUtf8}
use Rattle.serde_json.specs.Read.{read}
use Rattle.serde_json.proofs.OnLiterals.{serde_json_on_literals}
use Rattle.base64.proofs.OnLiterals.{base64_on_literals}
use Rattle.awk_form.specs.Node.{node_at}
use Rattle.awk_form.specs.Reading.{nodes_of, form_of}
use Rattle.awk_query.specs.Line.{or_json, line_or_unread}
use Rattle.awk_expr.specs.Reading.{expr_said}
use Rattle.awk_eval.specs.Variables.{Environment}
use Rattle.awk_edge.specs.Units.{Framed}
use Rattle.awk_edge.proofs.PlainUnits.{plain_units}
use Rattle.awk_framing.specs.Framing.{is_blank}
use Rattle.awk_session.specs.Replies.{step, step_read, answers}
use Rattle.awk_units.specs.Runs.{Step}
use Rattle.awk_session.specs.State.{State}

-- the step of a line of UTF-8 with its raw bytes, by what it is read as
abbrev pub read_with : State Environment → List ℕ → List ℕ → Step (State Environment)
read_with s line raw = step_read s (line_or_unread s.reading (or_json (read line))) raw

abbrev pub read_as : State Environment → List ℕ → Step (State Environment)
read_as s line = read_with s line []

-- a line that is not blank is answered by what is read from it
pub step-with : (s : State Environment) (line raw : List ℕ) → is_blank line ≡ false
    → IsUtf8 line → step s line raw ≡ read_with s line raw
unfolding step
step-with s line raw some text = rw (some, is_utf8-from_IsUtf8 line text) refl

pub step-read : (s : State Environment) (line : List ℕ) → is_blank line ≡ false → IsUtf8 line
    → step s line [] ≡ read_as s line
step-read s line some text = step-with s line [] some text

-- each text stands in a line
abbrev lines_of : List (List ℕ) → List ℕ
lines_of [] = []
lines_of (text ∷ texts) = text ++ 10 ∷ lines_of texts

abbrev pub show_x : List ℕ
show_x = codes "{\"show\":\"x\"}"

pub show_x-read : (s : State Environment) → step s show_x [] ≡ read_as s show_x
unfolding encode_utf8
show_x-read s = step-read s show_x refl (show_x, (refl, refl))

-- three lists of int64, at offsets 0, 2, 2 and 3
abbrev pub load_lists : List ℕ
load_lists =
    codes "{\"load\":\"x\",\"form\":{\"class\":\"ListOffsetArray\",\"offsets\":\"i64\",\"content\":{\"class\":\"NumpyArray\",\"primitive\":\"int64\",\"form_key\":\"node1\"},\"form_key\":\"node0\"},\"length\":3,\"buffers\":{\"node0-offsets\":\"AAAAAAAAAAACAAAAAAAAAAIAAAAAAAAAAwAAAAAAAAA=\",\"node1-data\":\"BQAAAAAAAAD//////////wcAAAAAAAAA\"}}"

pub load_lists-read : (s : State Environment)
    → step s load_lists [] ≡ read_as s load_lists
unfolding encode_utf8
load_lists-read s = step-read s load_lists refl (load_lists, (refl, refl))

pub lists_are_shown : answers (plain_units (load_lists ∷ show_x ∷ []))
    ≡ lines_of (codes "{\"bound\":\"x\"}" ∷ codes "{\"value\":[[5,-1],[],[7]]}" ∷ [])
unfolding expr_said serde_json_on_literals base64_on_literals digits node_at nodes_of form_of
lists_are_shown = simp (load_lists-read, show_x-read) refl

-- the same lists as plain values
abbrev values_lists : List ℕ
values_lists = codes "{\"values\":\"x\",\"from\":[[5,-1],[],[7]]}"

values_lists-read : (s : State Environment) → step s values_lists [] ≡ read_as s values_lists
unfolding encode_utf8
values_lists-read s = step-read s values_lists refl (values_lists, (refl, refl))

pub values_are_shown : answers (plain_units (values_lists ∷ show_x ∷ []))
    ≡ lines_of (codes "{\"bound\":\"x\"}" ∷ codes "{\"value\":[[5,-1],[],[7]]}" ∷ [])
unfolding expr_said serde_json_on_literals digits
values_are_shown = simp (values_lists-read, show_x-read) refl

-- a name that is not bound, and two offsets that are out of order
abbrev load_unordered : List ℕ
load_unordered =
    codes "{\"load\":\"x\",\"form\":{\"class\":\"ListOffsetArray\",\"offsets\":\"i64\",\"content\":{\"class\":\"NumpyArray\",\"primitive\":\"int64\",\"form_key\":\"node1\"},\"form_key\":\"node0\"},\"length\":2,\"buffers\":{\"node0-offsets\":\"AAAAAAAAAAADAAAAAAAAAAIAAAAAAAAA\"}}"

load_unordered-read : (s : State Environment)
    → step s load_unordered [] ≡ read_as s load_unordered
unfolding encode_utf8
load_unordered-read s =
    step-read s load_unordered refl (load_unordered, (refl, refl))

pub unordered_binds_nothing : answers (plain_units (load_unordered ∷ show_x ∷ []))
    ≡ lines_of
    (codes "{\"fault\":\"invalid\",\"node\":0,\"rule\":\"order\",\"place\":1}"
    ∷ codes "{\"fault\":\"name\",\"name\":\"x\"}" ∷ [])
unfolding expr_said serde_json_on_literals base64_on_literals digits node_at nodes_of form_of
unordered_binds_nothing = simp (load_unordered-read, show_x-read) refl

-- a value that is no line
abbrev null_line : List ℕ
null_line = codes "null"

null_line-read : (s : State Environment) → step s null_line [] ≡ read_as s null_line
unfolding encode_utf8
null_line-read s = step-read s null_line refl (null_line, (refl, refl))

pub null_is_no_line : answers (plain_units (null_line ∷ [])) ≡ lines_of
    (codes "{\"fault\":\"query\"}" ∷ [])
unfolding expr_said serde_json_on_literals
null_is_no_line = simp null_line-read refl

-- no name is bound
abbrev names_line : List ℕ
names_line = codes "{\"names\":null}"

names_line-read : (s : State Environment)
    → step s names_line [] ≡ read_as s names_line
unfolding encode_utf8
names_line-read s = step-read s names_line refl (names_line, (refl, refl))

pub no_names : answers (plain_units (names_line ∷ [])) ≡ lines_of (codes "{\"names\":[]}" ∷ [])
unfolding expr_said serde_json_on_literals
no_names = simp names_line-read refl

-- a form that is broken: an unknown primitive at the second node
abbrev load_float : List ℕ
load_float =
    codes "{\"load\":\"x\",\"form\":{\"class\":\"ListOffsetArray\",\"offsets\":\"i64\",\"content\":{\"class\":\"NumpyArray\",\"primitive\":\"float64\",\"form_key\":\"node1\"},\"form_key\":\"node0\"},\"length\":0,\"buffers\":{}}"

load_float-read : (s : State Environment)
    → step s load_float [] ≡ read_as s load_float
unfolding encode_utf8
load_float-read s = step-read s load_float refl (load_float, (refl, refl))

pub float_is_no_primitive : answers (plain_units (load_float ∷ []))
    ≡ lines_of (codes "{\"fault\":\"form\",\"node\":1,\"why\":\"primitive\"}" ∷ [])
unfolding expr_said serde_json_on_literals base64_on_literals digits node_at nodes_of form_of
float_is_no_primitive = simp load_float-read refl

-- a line that is no JSON
abbrev broken : List ℕ
broken = codes "{\"show\":"

broken-read : (s : State Environment) → step s broken [] ≡ read_as s broken
unfolding encode_utf8
broken-read s = step-read s broken refl (broken, (refl, refl))

pub broken_is_no_json : answers (plain_units (broken ∷ [])) ≡ lines_of
    (codes "{\"fault\":\"json\"}" ∷ [])
unfolding expr_said serde_json_on_literals
broken_is_no_json = simp broken-read refl

pub blank_has_no_answer : answers (plain_units (codes " \t\r" ∷ [])) ≡ []
unfolding step
blank_has_no_answer = refl

pub no_lines : answers [] ≡ []
no_lines = refl

-- ---- version 2

-- a unit of a line and its raw bytes, all there
abbrev pub raw_unit : List ℕ → List ℕ → Framed
raw_unit line raw =
    record { line = line; is_ended = true; asked = length raw; raw = raw }

abbrev session_line : List ℕ
session_line = codes "{\"session\":2}"

session_line-read : (s : State Environment) → step s session_line [] ≡ read_as s session_line
unfolding encode_utf8
session_line-read s = step-read s session_line refl (session_line, (refl, refl))

-- the line that begins version 2 answers itself, and is no line behind another
pub version_2_begins_once : answers (plain_units (session_line ∷ session_line ∷ []))
    ≡ lines_of (session_line ∷ codes "{\"fault\":\"query\"}" ∷ [])
unfolding expr_said serde_json_on_literals
version_2_begins_once = simp session_line-read refl

-- a number of two bytes, most significant first
abbrev load_raw : List ℕ
load_raw =
    codes "{\"load\":\"x\",\"form\":{\"class\":\"NumpyArray\",\"primitive\":\"uint16\",\"form_key\":\"n\"},\"length\":1,\"byteorder\":\">\",\"raw\":[[\"n-data\",2]]}"

load_raw-read : (s : State Environment) (raw : List ℕ)
    → step s load_raw raw ≡ read_with s load_raw raw
unfolding encode_utf8
load_raw-read s raw = step-with s load_raw raw refl (load_raw, (refl, refl))

pub raw_is_shown :
    answers (plain_units (session_line ∷ []) ++ raw_unit load_raw (1 ∷ 2 ∷ [])
    ∷ plain_units (show_x ∷ []))
    ≡ lines_of
    (session_line ∷ codes "{\"bound\":\"x\"}" ∷ codes "{\"value\":[258]}" ∷ [])
unfolding expr_said serde_json_on_literals base64_on_literals digits node_at nodes_of form_of
raw_is_shown = simp (session_line-read, load_raw-read, show_x-read) refl

-- one byte alone is there
pub raw_is_cut :
    answers (plain_units (session_line ∷ []) ++ raw_unit load_raw (1 ∷ []) ∷ [])
    ≡ lines_of
    (session_line
    ∷ codes "{\"fault\":\"buffer\",\"key\":\"n-data\",\"why\":\"cut\"}" ∷ [])
unfolding expr_said serde_json_on_literals base64_on_literals digits node_at nodes_of form_of
raw_is_cut = simp (session_line-read, load_raw-read) refl

-- in a session of version 1 it is no line
pub raw_is_no_line : answers (plain_units (load_raw ∷ []))
    ≡ lines_of (codes "{\"fault\":\"query\"}" ∷ [])
unfolding expr_said serde_json_on_literals
raw_is_no_line = simp load_raw-read refl
