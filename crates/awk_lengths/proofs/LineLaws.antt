-- The texts of the buffers that a line loads are together no longer than the line.
use Rattle.std.proofs.Common.{◌≡◌, ◌≤◌, ℕ, ◌==◌, Bool, true, false, cond, List, [], length, codes}
use Rattle.std.proofs.Common.{Option, Some, None, option_and_then, option_map, refl, arith}
use Rattle.std.proofs.lemmas.List.Sums.{sum_by-cons}
use Rattle.std.specs.Option.{option_map_or}
use Rattle.std.specs.Prelude.{unwrap_or, IfOk}
use Rattle.std.specs.Str.{is_utf8}
use Rattle.serde_json.specs.Data.{Data, null, boolean, number, string, array, object, Members}
use Rattle.serde_json.specs.Data.{no_members, member}
use Rattle.serde_json.specs.Events.{members_len}
use Rattle.serde_json.specs.Find.{get_member, as_object, as_str}
use Rattle.serde_json.specs.Read.{read}
use Rattle.awk_store.specs.Buffers.{texts_of, total_len}
use Rattle.awk_expr.specs.Arguments.{u64_in}
use Rattle.awk_expr.specs.ExprTree.{ExprTree}
use Rattle.awk_expr.specs.Reading.{expr_said}
use Rattle.awk_expr.specs.Told.{or_query}
use Rattle.awk_query.specs.declared.reading.Reading.{Reading}
use Rattle.awk_query.specs.declared.reading.Reading.TheVariants.{First, One, Two}
use Rattle.awk_query.specs.declared.reading.RawPart.{RawPart}
use Rattle.awk_query.specs.Line.{Buffers, texts, parts, Line, load, session, bind, values, show}
use Rattle.awk_query.specs.Line.{type_of, pack, names, name_at, expr_at, list_at, parts_at}
use Rattle.awk_query.specs.Line.{are_texts, if_texts, load_of, texts_in, raw_in, buffers_in}
use Rattle.awk_query.specs.Line.{ordered_in, load_in, bind_of, bind_in, values_with, values_in}
use Rattle.awk_query.specs.Line.{pair_in, names_from, single_in, if_two, session_from, if_version_2}
use Rattle.awk_query.specs.Line.{alone_in, line_with, line_of, json_of, or_json, line_or_unread}
use Rattle.awk_query.specs.Line.{line_said}
use Rattle.awk_lengths.specs.TextBytes.{text_bytes, members_bytes}
use Rattle.awk_lengths.specs.LineBytes.{text_len, HasBytes}
use Rattle.awk_lengths.proofs.AtMost.{AtMost}
use Rattle.awk_lengths.proofs.Values.{text_bytes-read, get_member-bytes}

as_str-bytes : (d : Data) → length (unwrap_or (as_str d) []) ≤ text_bytes d
as_str-bytes null = omega arith
as_str-bytes (boolean b) = omega arith
as_str-bytes (number n) = omega arith
as_str-bytes (string s) = omega arith
as_str-bytes (array ds) = omega arith
as_str-bytes (object ms) = omega arith

total_len-texts : (ms : Members) → total_len (texts_of ms) ≤ members_bytes ms
total_len-texts no_members = omega arith
total_len-texts (member k d ms) = omega (
  arith,
  as_str-bytes d,
  total_len-texts ms,
  sum_by-cons (λ (e : List ℕ × List ℕ). length e.1) (k, unwrap_or (as_str d) []) (texts_of ms),
)

-- ---- the line that a value is

-- a line that may be there has texts of at most n bytes
abbrev IsWithin : ℕ → Option Line → Type 0
IsWithin n None = Unit {0}
IsWithin n (Some l) = HasBytes n l

-- ---- buffers

texts_of_within : (n : ℕ) (ms : Members) → members_bytes ms ≤ n → (b : Bool)
    → AtMost text_len n (option_map texts (cond b (Some ms) None))
texts_of_within n ms h true = omega (arith, h, total_len-texts ms)
texts_of_within n ms h false = tt

texts_within : (n : ℕ) (o : Option Data) → AtMost text_bytes n o
    → AtMost text_len n (option_map texts (option_and_then if_texts (option_and_then as_object o)))
texts_within n None h = tt
texts_within n (Some null) h = tt
texts_within n (Some (boolean b)) h = tt
texts_within n (Some (number m)) h = tt
texts_within n (Some (string s)) h = tt
texts_within n (Some (array ds)) h = tt
texts_within n (Some (object ms)) h = texts_of_within n ms h (are_texts ms)

texts_in_within : (ms : Members) → AtMost text_len (members_bytes ms) (texts_in ms)
texts_in_within ms =
    texts_within (members_bytes ms) (get_member (codes "buffers") ms)
    (get_member-bytes (codes "buffers") ms)

-- bytes that follow are no texts
parts_within : (n : ℕ) (o : Option (List RawPart)) → AtMost text_len n (option_map parts o)
parts_within n None = tt
parts_within n (Some ps) = omega arith

buffers_within : (ms : Members) (o : Option Data) → AtMost text_len (members_bytes ms)
    (option_map_or (λ d. texts_in ms) o (raw_in ms))
buffers_within ms None = parts_within (members_bytes ms) (parts_at (codes "raw") ms)
buffers_within ms (Some d) = texts_in_within ms

-- ---- loads

load_of_within : (n : ℕ) (name : Option (List ℕ)) (form : Option Data) (count : Option ℕ)
    (big : Option Bool) (buffers : Option Buffers) → AtMost text_len n buffers
    → IsWithin n (load_of name form count big buffers)
load_of_within n None form count big buffers h = tt
load_of_within n (Some name) None count big buffers h = tt
load_of_within n (Some name) (Some d) None big buffers h = tt
load_of_within n (Some name) (Some d) (Some count) None buffers h = tt
load_of_within n (Some name) (Some d) (Some count) (Some b) None h = tt
load_of_within n (Some name) (Some d) (Some count) (Some b) (Some buffers) h = h

load_within : (ms : Members) → IsWithin (members_bytes ms) (load_in ms)
load_within ms = load_of_within (members_bytes ms) _ _ _ _ (texts_in ms) (texts_in_within ms)

ordered_within : (ms : Members) → IsWithin (members_bytes ms) (ordered_in ms)
ordered_within ms =
    load_of_within (members_bytes ms) _ _ _ _ (buffers_in ms)
    (buffers_within ms (get_member (codes "buffers") ms))

version_2_within : (reading : Reading) (n : ℕ) (o : Option Line) → IsWithin n o
    → IsWithin n (if_version_2 reading o)
version_2_within First n o h = tt
version_2_within One n o h = tt
version_2_within Two n o h = h

-- ---- other lines

bind_within : (n : ℕ) (name : Option (List ℕ)) (e : Option ExprTree)
    → IsWithin n (bind_of name e)
bind_within n None e = tt
bind_within n (Some name) None = tt
bind_within n (Some name) (Some e) = tt

values_within : (n : ℕ) (name : Option (List ℕ)) (list : Option Data)
    → IsWithin n (values_with name list)
values_within n None list = tt
values_within n (Some name) None = tt
values_within n (Some name) (Some d) = tt

pair_within : (n : ℕ) (ms : Members) (o : Option Data)
    → IsWithin n (option_map_or (λ d. values_in ms) o (bind_in ms))
pair_within n ms None = bind_within n (name_at (codes "let") ms) (expr_at (codes "be") ms)
pair_within n ms (Some d) =
    values_within n (name_at (codes "values") ms) (list_at (codes "from") ms)

map_within : {A : Type 0} (n : ℕ) (f : A → Line) → ((a : A) → HasBytes n (f a)) → (o : Option A)
    → IsWithin n (option_map f o)
map_within n f h None = tt
map_within n f h (Some a) = h a

names_within : (n : ℕ) (o : Option Data) → IsWithin n (option_and_then names_from o)
names_within n None = tt
names_within n (Some null) = tt
names_within n (Some (boolean b)) = tt
names_within n (Some (number m)) = tt
names_within n (Some (string s)) = tt
names_within n (Some (array ds)) = tt
names_within n (Some (object ms)) = tt

either : (n : ℕ) (b : Bool) (x y : Option Line) → IsWithin n x → IsWithin n y
    → IsWithin n (cond b x y)
either n true x y h k = h
either n false x y h k = k

-- the line of a value that is there, or another
there : (n : ℕ) (f : ExprTree → Line) → ((e : ExprTree) → HasBytes n (f e)) → (o : Option Data)
    (other : Option Line) → IsWithin n other
    → IsWithin n (option_map_or (λ d. option_map f (expr_said d)) o other)
there n f h None other k = k
there n f h (Some d) other k = map_within n f h (expr_said d)

single_within : (n : ℕ) (ms : Members) → IsWithin n (single_in ms)
single_within n ms =
    there n show (λ e. tt) (get_member (codes "show") ms) _
    (there n type_of (λ e. tt) (get_member (codes "type") ms) _
    (there n pack (λ e. tt) (get_member (codes "pack") ms) _
    (names_within n (get_member (codes "names") ms))))

two_within : (n count : ℕ) → IsWithin n (if_two count)
two_within n count = either n (count == 2) (Some session) None tt tt

then_within : {A : Type 0} (n : ℕ) (f : A → Option Line) → ((a : A) → IsWithin n (f a))
    → (o : Option A) → IsWithin n (option_and_then f o)
then_within n f h None = tt
then_within n f h (Some a) = h a

first_within : (n : ℕ) (ms : Members) (o : Option Data)
    → IsWithin n (option_map_or session_from o (single_in ms))
first_within n ms None = single_within n ms
first_within n ms (Some d) = then_within n if_two (two_within n) (u64_in d)

alone_within : (reading : Reading) (n : ℕ) (ms : Members) → IsWithin n (alone_in reading ms)
alone_within First n ms = first_within n ms (get_member (codes "session") ms)
alone_within One n ms = single_within n ms
alone_within Two n ms = single_within n ms

object_within : (reading : Reading) (count : ℕ) (ms : Members)
    → IsWithin (members_bytes ms) (line_with reading count ms)
object_within reading count ms =
    let n = members_bytes ms in
    either n (count == 5) (if_version_2 reading (ordered_in ms)) _
    (version_2_within reading n (ordered_in ms) (ordered_within ms))
    (either n (count == 4) (load_in ms) _ (load_within ms)
    (either n (count == 2) (pair_in ms) _ (pair_within n ms (get_member (codes "values") ms))
    (either n (count == 1) (alone_in reading ms) None (alone_within reading n ms) tt)))

line_within : (reading : Reading) (d : Data) → IsWithin (text_bytes d) (line_of reading d)
line_within reading null = tt
line_within reading (boolean b) = tt
line_within reading (number n) = tt
line_within reading (string s) = tt
line_within reading (array ds) = tt
line_within reading (object ms) = object_within reading (members_len ms) ms

-- ---- a line's bytes

wider : (n m : ℕ) (l : Line) → HasBytes n l → n ≤ m → HasBytes m l
wider n m (load name d count big buffers) h le = omega (arith, h, le)
wider n m session h le = tt
wider n m (bind name e) h le = tt
wider n m (values name list) h le = tt
wider n m (show e) h le = tt
wider n m (type_of e) h le = tt
wider n m (pack e) h le = tt
wider n m names h le = tt

or_query_within : (n m : ℕ) (o : Option Line) → IsWithin n o → n ≤ m
    → IfOk (or_query o) (HasBytes m)
or_query_within n m None h le = tt
or_query_within n m (Some l) h le = wider n m l h le

read_within : (reading : Reading) (n : ℕ) (o : Option Data)
    → ((d : Data) → o ≡ Some d → text_bytes d ≤ n)
    → IfOk (line_or_unread reading (or_json o)) (HasBytes n)
read_within reading n None h = tt
read_within reading n (Some d) h =
    or_query_within (text_bytes d) n (line_of reading d) (line_within reading d) (h d refl)

json_bytes : (line : List ℕ) (d : Data) → json_of line ≡ Some d → text_bytes d ≤ length line
json_bytes line d = by (is_utf8 line)
  where
    by : (b : Bool) → cond b (read line) None ≡ Some d → text_bytes d ≤ length line
    by true e = text_bytes-read line d e
    by false e = absurd (cc)

-- where a line loads, the texts of its buffers are together no longer than the line
pub line_said-bytes : (reading : Reading) (line : List ℕ)
    → IfOk (line_said reading line) (HasBytes (length line))
line_said-bytes reading line =
    read_within reading (length line) (json_of line) (json_bytes line)
