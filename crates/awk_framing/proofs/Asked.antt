-- Only in version 2 does a line ask for raw bytes, and only one of five members.
use Rattle.std.proofs.Common.{◌≡◌, ◌==◌, ◌&&◌, ℕ, Bool, true, false, cond, List, Option, Some, None}
use Rattle.std.proofs.Common.{Result, Ok, Err, refl}
use Rattle.std.specs.Prelude.{option_map, option_and_then, codes}
use Rattle.std.specs.Option.{option_map_or}
use Rattle.serde_json.specs.Data.{Data, null, boolean, number, string, array, object, Members}
use Rattle.serde_json.specs.Events.{members_len}
use Rattle.serde_json.specs.Find.{get_member}
use Rattle.std.proofs.lemmas.Bool.{and_right}
use Rattle.awk_expr.specs.Arguments.{u64_in}
use Rattle.awk_expr.specs.ExprTree.{ExprTree}
use Rattle.awk_query.specs.Line.{Line, texts, session, show, type_of, pack}
use Rattle.awk_query.specs.Line.{load_of, load_in, ordered_in, name_at, count_at}
use Rattle.awk_query.specs.Line.{texts_at, expr_at, list_at, bind_of, bind_in, values_with}
use Rattle.awk_query.specs.Line.{values_in, pair_in, names_from, single_in, if_two, session_from}
use Rattle.awk_query.specs.Line.{if_version_2, alone_in, line_with, json_said}
use Rattle.awk_query.specs.Line.{line_or_unread}
use Rattle.awk_expr.specs.Reading.{expr_said}
use Rattle.awk_expr.specs.Told.{Unread, or_query}
use Rattle.awk_query.specs.declared.reading.Reading.{Reading}
use Rattle.awk_query.specs.declared.reading.Reading.TheVariants.{First, One, Two}
use Rattle.awk_framing.specs.Framing.{is_blank, asked_by, raw_asked}

abbrev AsksNone : Option Line → Type 0
AsksNone o = asked_by (or_query o) ≡ 0

texts_none : (n : Option (List ℕ)) (f : Option Data) (c : Option ℕ) (b : Option Bool)
    (ms : Option Members) → AsksNone (load_of n f c b (option_map texts ms))
texts_none None f c b ms = refl
texts_none (Some n) None c b ms = refl
texts_none (Some n) (Some f) None b ms = refl
texts_none (Some n) (Some f) (Some c) None ms = refl
texts_none (Some n) (Some f) (Some c) (Some b) None = refl
texts_none (Some n) (Some f) (Some c) (Some b) (Some ms) = refl

bind_none : (n : Option (List ℕ)) (e : Option ExprTree) → AsksNone (bind_of n e)
bind_none None e = refl
bind_none (Some n) None = refl
bind_none (Some n) (Some e) = refl

values_none : (n : Option (List ℕ)) (d : Option Data) → AsksNone (values_with n d)
values_none None d = refl
values_none (Some n) None = refl
values_none (Some n) (Some d) = refl

pair_none : (ms : Members) (o : Option Data)
    → AsksNone (option_map_or (λ d. values_in ms) o (bind_in ms))
pair_none ms None = bind_none (name_at (codes "let") ms) (expr_at (codes "be") ms)
pair_none ms (Some d) = values_none (name_at (codes "values") ms) (list_at (codes "from") ms)

map_none : (f : ExprTree → Line) → ((e : ExprTree) → asked_by (Ok (f e)) ≡ 0)
    → (o : Option ExprTree) → AsksNone (option_map f o)
map_none f h None = refl
map_none f h (Some e) = h e

-- the line of a value that is there, or another
there_none : (f : ExprTree → Line) → ((e : ExprTree) → asked_by (Ok (f e)) ≡ 0)
    → (o : Option Data) (other : Option Line) → AsksNone other
    → AsksNone (option_map_or (λ d. option_map f (expr_said d)) o other)
there_none f h None other k = k
there_none f h (Some d) other k = map_none f h (expr_said d)

names_none : (o : Option Data) → AsksNone (option_and_then names_from o)
names_none None = refl
names_none (Some null) = refl
names_none (Some (boolean b)) = refl
names_none (Some (number n)) = refl
names_none (Some (string s)) = refl
names_none (Some (array ds)) = refl
names_none (Some (object ms)) = refl

single_none : (ms : Members) → AsksNone (single_in ms)
single_none ms =
    there_none show (λ e. refl) (get_member (codes "show") ms) _
    (there_none type_of (λ e. refl) (get_member (codes "type") ms) _
    (there_none pack (λ e. refl) (get_member (codes "pack") ms) _
    (names_none (get_member (codes "names") ms))))

cond_none : (b : Bool) (x y : Option Line) → AsksNone x → AsksNone y → AsksNone (cond b x y)
cond_none true x y h k = h
cond_none false x y h k = k

version_none : (o : Option ℕ) → AsksNone (option_and_then if_two o)
version_none None = refl
version_none (Some n) = cond_none (n == 2) (Some session) None refl refl

first_none : (ms : Members) (o : Option Data)
    → AsksNone (option_map_or session_from o (single_in ms))
first_none ms None = single_none ms
first_none ms (Some d) = version_none (u64_in d)

alone_none : (r : Reading) (ms : Members) → AsksNone (alone_in r ms)
alone_none First ms = first_none ms (get_member (codes "session") ms)
alone_none One ms = single_none ms
alone_none Two ms = single_none ms

pub is_two : Reading → Bool
is_two First = false
is_two One = false
is_two Two = true

ordered_none : (r : Reading) (five : Bool) (o rest : Option Line) → (is_two r && five) ≡ false
    → AsksNone rest → AsksNone (cond five (if_version_2 r o) rest)
unfolding is_two
ordered_none r false o rest e k = k
ordered_none First true o rest e k = refl
ordered_none One true o rest e k = refl
ordered_none Two true o rest e k = absurd (cc)

object_none : (r : Reading) (count : ℕ) (ms : Members) → (is_two r && (count == 5)) ≡ false
    → AsksNone (line_with r count ms)
object_none r count ms e =
    ordered_none r (count == 5) (ordered_in ms) _ e
    (cond_none (count == 4) (load_in ms) _
    (texts_none (name_at (codes "load") ms) (get_member (codes "form") ms)
    (count_at (codes "length") ms) (Some false) (texts_at (codes "buffers") ms))
    (cond_none (count == 2) (pair_in ms) _ (pair_none ms (get_member (codes "values") ms))
    (cond_none (count == 1) (alone_in r ms) None (alone_none r ms) refl)))

-- whether a value is an object of five members
abbrev pub has_five : Result Data Unread → Bool
has_five (Ok (object ms)) = members_len ms == 5
has_five (Ok null) = false
has_five (Ok (boolean b)) = false
has_five (Ok (number n)) = false
has_five (Ok (string s)) = false
has_five (Ok (array ds)) = false
has_five (Err unread) = false

said_none : (r : Reading) (said : Result Data Unread) → (is_two r && has_five said) ≡ false
    → asked_by (line_or_unread r said) ≡ 0
said_none r (Err unread) e = refl
said_none r (Ok null) e = refl
said_none r (Ok (boolean b)) e = refl
said_none r (Ok (number n)) e = refl
said_none r (Ok (string s)) e = refl
said_none r (Ok (array ds)) e = refl
said_none r (Ok (object ms)) e = object_none r (members_len ms) ms e

none_asked : (r : Reading) (line : List ℕ) → (is_two r && has_five (json_said line)) ≡ false
    → raw_asked r line ≡ 0
unfolding raw_asked
none_asked r line e = by (is_blank line) (said_none r (json_said line) e)
  where
    by : (b : Bool) → asked_by (line_or_unread r (json_said line)) ≡ 0
        → cond b 0 (asked_by (line_or_unread r (json_said line))) ≡ 0
    by true h = refl
    by false h = h

-- in version 1 no line asks for raw bytes
pub raw_asked-first : (line : List ℕ) → raw_asked First line ≡ 0
unfolding is_two
raw_asked-first line = none_asked First line refl

pub raw_asked-one : (line : List ℕ) → raw_asked One line ≡ 0
unfolding is_two
raw_asked-one line = none_asked One line refl

-- nor does one that is no object of five members
pub raw_asked-few : (r : Reading) (line : List ℕ) → has_five (json_said line) ≡ false
    → raw_asked r line ≡ 0
raw_asked-few r line e = none_asked r line (and_right (is_two r) (has_five (json_said line)) e)
