-- The costs of worked sessions, computed.
use Rattle.std.proofs.Common.{◌≡◌, ℕ, true, false, List, [], ◌∷◌, codes, refl, Option}
use Rattle.std.specs.Result.{result_ok}
use Rattle.std.specs.Char.{encode_utf8}
use Rattle.std.specs.Fmt.{digits}
use Rattle.std.specs.Str.{IsUtf8}
use Rattle.std.proofs.lemmas.Str.{is_utf8-from_IsUtf8}
use Rattle.serde_json.specs.Read.{read}
use Rattle.serde_json.proofs.OnLiterals.{serde_json_on_literals}
use Rattle.base64.proofs.OnLiterals.{base64_on_literals}
use Rattle.awk_form.specs.Node.{node_at}
use Rattle.awk_form.specs.Reading.{nodes_of, form_of}
use Rattle.awk_query.specs.Line.{Line, or_json, line_or_unread}
use Rattle.awk_expr.specs.Operations.{row_of}
use Rattle.awk_expr.specs.Reading.{expr_said}
use Rattle.awk_eval.specs.Variables.{Environment}
use Rattle.awk_edge.proofs.PlainUnits.{plain_units}
use Rattle.awk_query.specs.declared.reading.Reading.{Reading}
use Rattle.awk_framing.specs.Framing.{is_blank, read_behind, reading_behind}
use Rattle.awk_session.specs.Replies.{step}
use Rattle.awk_session.specs.State.{State}
use Rattle.awk_session.specs.Cost.{line_in, cost, are_plain}
use Rattle.awk_worked.proofs.Sessions.{read_as, step-read, load_lists, load_lists-read, show_x}
use Rattle.awk_worked.proofs.Sessions.{show_x-read}

-- the line that a text of UTF-8 is
abbrev line_as : Reading → List ℕ → Option Line
line_as r line = result_ok (line_or_unread r (or_json (read line)))

line_in-read : (r : Reading) (line : List ℕ) → is_blank line ≡ false → IsUtf8 line
    → line_in r line ≡ line_as r line
unfolding line_in
line_in-read r line some text = rw (some, is_utf8-from_IsUtf8 line text) refl

-- how the lines behind it are read
abbrev read_as_behind : Reading → List ℕ → Reading
read_as_behind r line = reading_behind r (line_or_unread r (or_json (read line)))

read_behind-read : (r : Reading) (line : List ℕ) → is_blank line ≡ false → IsUtf8 line
    → read_behind r line ≡ read_as_behind r line
unfolding read_behind
read_behind-read r line some text = rw (some, is_utf8-from_IsUtf8 line text) refl

-- three lists of int64, loaded and shown
load_lists-line : (r : Reading) → line_in r load_lists ≡ line_as r load_lists
unfolding encode_utf8
load_lists-line r = line_in-read r load_lists refl (load_lists, (refl, refl))

load_lists-behind : (r : Reading) → read_behind r load_lists ≡ read_as_behind r load_lists
unfolding encode_utf8
load_lists-behind r = read_behind-read r load_lists refl (load_lists, (refl, refl))

show_x-line : (r : Reading) → line_in r show_x ≡ line_as r show_x
unfolding encode_utf8
show_x-line r = line_in-read r show_x refl (show_x, (refl, refl))

pub lists_are_plain : are_plain (plain_units (load_lists ∷ show_x ∷ [])) ≡ true
unfolding expr_said serde_json_on_literals base64_on_literals digits node_at nodes_of form_of
lists_are_plain =
    simp (load_lists-line, show_x-line, load_lists-behind) refl

-- 8 * 3 * 289 for the load, and 4 * 2 + 8 * (2 + 2 * 25) for the show
pub lists_cost : cost (plain_units (load_lists ∷ show_x ∷ [])) ≡ 7360
unfolding expr_said serde_json_on_literals base64_on_literals digits node_at nodes_of form_of
lists_cost = simp (load_lists-read, show_x-read, load_lists-line, show_x-line) refl

-- eleven numbers under a mask of bits, loaded, and a range of them shown
abbrev load_masked : List ℕ
load_masked =
    codes "{\"load\":\"x\",\"form\":{\"class\":\"BitMaskedArray\",\"mask\":\"u8\",\"valid_when\":false,\"lsb_order\":false,\"content\":{\"class\":\"NumpyArray\",\"primitive\":\"int8\",\"form_key\":\"d\"},\"form_key\":\"m\"},\"length\":11,\"buffers\":{\"m-mask\":\"QqA=\",\"d-data\":\"AAECAwQFBgcICQo=\"}}"

load_masked-read : (s : State Environment)
    → step s load_masked [] ≡ read_as s load_masked
unfolding encode_utf8
load_masked-read s = step-read s load_masked refl (load_masked, (refl, refl))

load_masked-line : (r : Reading) → line_in r load_masked ≡ line_as r load_masked
unfolding encode_utf8
load_masked-line r = line_in-read r load_masked refl (load_masked, (refl, refl))

load_masked-behind : (r : Reading) → read_behind r load_masked ≡ read_as_behind r load_masked
unfolding encode_utf8
load_masked-behind r = read_behind-read r load_masked refl (load_masked, (refl, refl))

abbrev show_range : List ℕ
show_range = codes "{\"show\":[\"range\",\"x\",3,10]}"

show_range-read : (s : State Environment)
    → step s show_range [] ≡ read_as s show_range
unfolding encode_utf8
show_range-read s = step-read s show_range refl (show_range, (refl, refl))

show_range-line : (r : Reading) → line_in r show_range ≡ line_as r show_range
unfolding encode_utf8
show_range-line r = line_in-read r show_range refl (show_range, (refl, refl))

pub masked_is_plain : are_plain (plain_units (load_masked ∷ show_range ∷ [])) ≡ true
unfolding expr_said row_of serde_json_on_literals base64_on_literals digits node_at nodes_of form_of
masked_is_plain =
    simp (load_masked-line, show_range-line, load_masked-behind) refl

-- 8 * 3 * 246 for the load, and 4 * 2 * 2 + 8 * (2 + 2 * 31) for the show
pub masked_cost : cost (plain_units (load_masked ∷ show_range ∷ [])) ≡ 6432
unfolding expr_said row_of serde_json_on_literals base64_on_literals digits node_at nodes_of form_of
masked_cost =
    simp (load_masked-read, show_range-read, load_masked-line, show_range-line) refl
