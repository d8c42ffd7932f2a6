-- A values line that is read has a list.
use Rattle.std.proofs.Common.{◌==◌, ℕ, Bool, true, false, cond, List, Option, Some, None}
use Rattle.std.proofs.Common.{Result, Ok, Err, refl}
use Rattle.std.specs.Prelude.{IfOk, option_map, option_and_then, codes}
use Rattle.std.specs.Option.{option_map_or}
use Rattle.serde_json.specs.Data.{Data, null, boolean, number, string, array, object, Members}
use Rattle.serde_json.specs.Events.{members_len}
use Rattle.serde_json.specs.Find.{get_member}
use Rattle.awk_expr.specs.Arguments.{u64_in}
use Rattle.awk_expr.specs.ExprTree.{ExprTree}
use Rattle.awk_query.specs.Line.{Line, Buffers, session, show, type_of, pack, load_of, bind_of}
use Rattle.awk_query.specs.Line.{bind_in, values_with, values_in, if_list, name_at, count_at}
use Rattle.awk_query.specs.Line.{expr_at, pair_in, names_from, single_in, if_two, session_from}
use Rattle.awk_query.specs.Line.{order_at, buffers_in, ordered_in, texts_in, load_in}
use Rattle.awk_query.specs.Line.{if_version_2, alone_in, line_with, json_said}
use Rattle.awk_query.specs.Line.{line_or_unread, line_said}
use Rattle.awk_expr.specs.Reading.{expr_said}
use Rattle.awk_expr.specs.Told.{Unread, or_query}
use Rattle.awk_query.specs.declared.reading.Reading.{Reading}
use Rattle.awk_query.specs.declared.reading.Reading.TheVariants.{First, One, Two}
use Rattle.awk_framing.specs.Listed.{IsListed}

abbrev IfLine : Option Line → Type 0
IfLine o = IfOk (or_query o) IsListed

load_listed : (n : Option (List ℕ)) (f : Option Data) (c : Option ℕ) (b : Option Bool)
    (bs : Option Buffers) → IfLine (load_of n f c b bs)
load_listed None f c b bs = tt
load_listed (Some n) None c b bs = tt
load_listed (Some n) (Some f) None b bs = tt
load_listed (Some n) (Some f) (Some c) None bs = tt
load_listed (Some n) (Some f) (Some c) (Some b) None = tt
load_listed (Some n) (Some f) (Some c) (Some b) (Some bs) = tt

bind_listed : (n : Option (List ℕ)) (e : Option ExprTree) → IfLine (bind_of n e)
bind_listed None e = tt
bind_listed (Some n) None = tt
bind_listed (Some n) (Some e) = tt

values_listed : (n : Option (List ℕ)) (d : Option Data)
    → IfLine (values_with n (option_and_then if_list d))
values_listed None d = tt
values_listed (Some n) None = tt
values_listed (Some n) (Some null) = tt
values_listed (Some n) (Some (boolean b)) = tt
values_listed (Some n) (Some (number z)) = tt
values_listed (Some n) (Some (string s)) = tt
values_listed (Some n) (Some (array ds)) = refl
values_listed (Some n) (Some (object ms)) = tt

pair_listed : (ms : Members) (o : Option Data)
    → IfLine (option_map_or (λ d. values_in ms) o (bind_in ms))
pair_listed ms None = bind_listed (name_at (codes "let") ms) (expr_at (codes "be") ms)
pair_listed ms (Some d) =
    values_listed (name_at (codes "values") ms) (get_member (codes "from") ms)

map_listed : (f : ExprTree → Line) → ((e : ExprTree) → IsListed (f e))
    → (o : Option ExprTree) → IfLine (option_map f o)
map_listed f h None = tt
map_listed f h (Some e) = h e

-- the line of a value that is there, or another
there_listed : (f : ExprTree → Line) → ((e : ExprTree) → IsListed (f e))
    → (o : Option Data) (other : Option Line) → IfLine other
    → IfLine (option_map_or (λ d. option_map f (expr_said d)) o other)
there_listed f h None other k = k
there_listed f h (Some d) other k = map_listed f h (expr_said d)

names_listed : (o : Option Data) → IfLine (option_and_then names_from o)
names_listed None = tt
names_listed (Some null) = tt
names_listed (Some (boolean b)) = tt
names_listed (Some (number n)) = tt
names_listed (Some (string s)) = tt
names_listed (Some (array ds)) = tt
names_listed (Some (object ms)) = tt

single_listed : (ms : Members) → IfLine (single_in ms)
single_listed ms =
    there_listed show (λ e. tt) (get_member (codes "show") ms) _
    (there_listed type_of (λ e. tt) (get_member (codes "type") ms) _
    (there_listed pack (λ e. tt) (get_member (codes "pack") ms) _
    (names_listed (get_member (codes "names") ms))))

cond_listed : (b : Bool) (x y : Option Line) → IfLine x → IfLine y → IfLine (cond b x y)
cond_listed true x y h k = h
cond_listed false x y h k = k

version_listed : (o : Option ℕ) → IfLine (option_and_then if_two o)
version_listed None = tt
version_listed (Some n) = cond_listed (n == 2) (Some session) None tt tt

first_listed : (ms : Members) (o : Option Data)
    → IfLine (option_map_or session_from o (single_in ms))
first_listed ms None = single_listed ms
first_listed ms (Some d) = version_listed (u64_in d)

alone_listed : (r : Reading) (ms : Members) → IfLine (alone_in r ms)
alone_listed First ms = first_listed ms (get_member (codes "session") ms)
alone_listed One ms = single_listed ms
alone_listed Two ms = single_listed ms

two_listed : (r : Reading) (o : Option Line) → IfLine o → IfLine (if_version_2 r o)
two_listed First o h = tt
two_listed One o h = tt
two_listed Two o h = h

object_listed : (r : Reading) (count : ℕ) (ms : Members) → IfLine (line_with r count ms)
object_listed r count ms =
    let name = name_at (codes "load") ms in
    let form = get_member (codes "form") ms in
    let length = count_at (codes "length") ms in
    cond_listed (count == 5) (if_version_2 r (ordered_in ms)) _
    (two_listed r (ordered_in ms)
    (load_listed name form length (order_at (codes "byteorder") ms) (buffers_in ms)))
    (cond_listed (count == 4) (load_in ms) _
    (load_listed name form length (Some false) (texts_in ms))
    (cond_listed (count == 2) (pair_in ms) _ (pair_listed ms (get_member (codes "values") ms))
    (cond_listed (count == 1) (alone_in r ms) None (alone_listed r ms) tt)))

unread_listed : (r : Reading) (said : Result Data Unread)
    → IfOk (line_or_unread r said) IsListed
unread_listed r (Err unread) = tt
unread_listed r (Ok null) = tt
unread_listed r (Ok (boolean b)) = tt
unread_listed r (Ok (number n)) = tt
unread_listed r (Ok (string s)) = tt
unread_listed r (Ok (array ds)) = tt
unread_listed r (Ok (object ms)) = object_listed r (members_len ms) ms

pub line_said-listed : (r : Reading) (line : List ℕ) → IfOk (line_said r line) IsListed
line_said-listed r line = unread_listed r (json_said line)
