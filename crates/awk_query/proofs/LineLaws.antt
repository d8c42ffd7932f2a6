-- Lines, by their members.
use Rattle.std.proofs.Common.{◌≡◌, ℕ, ◌&&◌, ◌==◌, Bool, true, false, cond, arith, List, [], ◌∷◌}
use Rattle.std.proofs.Common.{length, String, string_bytes, BTreeMap, Global, Option, Some, None}
use Rattle.std.proofs.Common.{option_map, option_and_then, Result, Ok, Err, codes, is_some, is_eq}
use Rattle.std.proofs.Common.{nat_cmp, refl, ap, sym, ◌∙◌, subst}
use Rattle.std.specs.Prelude.{◌≢◌, IfOk}
use Rattle.std.specs.Option.{option_map_or}
use Rattle.std.specs.List.{list_all}
use Rattle.std.specs.Map.{values_of, remove_entry}
use Rattle.std.specs.BTreeMap.{is_at}
use Rattle.std.specs.Ordering.{match_ordering}
use Rattle.std.specs.Cmp.Lexicographic.{slice_cmp}
use Rattle.std.specs.Str.{IsUtf8, is_utf8}
use Rattle.std.proofs.lemmas.Str.{IsUtf8-from_is_utf8, is_utf8-from_IsUtf8}
use Rattle.std.proofs.lemmas.Map.Text.{is_eq-slice_cmp}
use Rattle.serde_json.specs.Read.{read}
use Rattle.serde_json.specs.Data.{Data, null, boolean, number, string, array, object, Members}
use Rattle.serde_json.specs.Data.{member}
use Rattle.serde_json.specs.Find.{as_str, as_object, get_member}
use Rattle.serde_json.specs.Events.{members_len}
use Rattle.serde_json.specs.View.{view, members_view}
use Rattle.serde_json.proofs.Views.{Entry, view-Object, members_len-members_view, member_later}
use Rattle.serde_json.specs.declared.value.Value.{Value, Object}
use Rattle.awk_types.specs.DataType.{Name}
use Rattle.awk_types.specs.Gives.{Gives}
use Rattle.awk_types.specs.Names.{are_distinct}
use Rattle.awk_types.proofs.NameLaws.{same_name_is}
use Rattle.awk_expr.specs.Allowed.{IsAllowed}
use Rattle.awk_expr.proofs.AllowedLaws.{May, may-map-of, may-then, may-if, said-is}
use Rattle.awk_expr.specs.ExprTree.{ExprTree}
use Rattle.awk_expr.specs.Reading.{expr_said}
use Rattle.awk_expr.specs.Arguments.{all_of, items_in, u64_in}
use Rattle.awk_expr.specs.declared.fault.QueryFault.{QueryFault}
use Rattle.awk_expr.specs.Told.{unread_told, or_query}
use Rattle.awk_query.specs.AllowedLine.{IsAllowedLine}
use Rattle.awk_query.specs.Line.{Line, Buffers, texts, parts, session, show, type_of, pack}
use Rattle.awk_query.specs.Line.{names_from, line_of, line_with, load_of, load_with, load_in}
use Rattle.awk_query.specs.Line.{texts_in, raw_in, buffers_in, ordered_in, if_version_2, bind_of}
use Rattle.awk_query.specs.Line.{bind_in, values_with, values_in, pair_in, single_in, if_two}
use Rattle.awk_query.specs.Line.{session_from, alone_in, name_at, count_at, expr_at, list_at}
use Rattle.awk_query.specs.Line.{order_at, part_in, parts_in, parts_at, keys_of, if_apart}
use Rattle.awk_query.specs.Line.{are_texts, if_texts, texts_at, json_of}
use Rattle.awk_query.specs.declared.reading.Reading.{Reading}
use Rattle.awk_query.specs.declared.reading.Reading.TheVariants.{First, One, Two}
use Rattle.awk_query.specs.LineView.{line_view}
use Rattle.awk_query.specs.declared.line.Line as code

-- ---- bytes

-- of UTF-8, what serde_json reads
pub json_of-read : (line : List ℕ) → IsUtf8 line → json_of line ≡ read line
json_of-read line text = rw (is_utf8-from_IsUtf8 line text) refl

-- of other bytes, nothing
pub json_of-none : (line : List ℕ) → (IsUtf8 line → read line ≡ None) → json_of line ≡ None
json_of-none line none = by (is_utf8 line) refl
  where
    by : (b : Bool) → is_utf8 line ≡ b → cond b (read line) None ≡ None
    by true e = none (IsUtf8-from_is_utf8 line e)
    by false e = refl

-- ---- objects

-- the line that an object in code is
pub line_of-Object : (reading : Reading) (value : Value) (m : BTreeMap (String Global) Value)
    (count : ℕ) → value ≡ Object m → count ≡ length m.entries
    → line_of reading (view value) ≡ line_with reading count (members_view m.entries)
line_of-Object reading value m count is counted =
    ap (λ v. line_of reading (view v)) is ∙ ap (line_of reading) (view-Object m)
    ∙ ap (λ n. line_with reading n (members_view m.entries))
    (members_len-members_view m.entries ∙ sym counted)

-- of any other number of members it is no line
pub line_with-none : (reading : Reading) (count : ℕ) (ms : Members) → (count ≡ 5 → ⊥)
    → (count ≡ 4 → ⊥) → (count ≡ 2 → ⊥) → (count ≡ 1 → ⊥)
    → line_with reading count ms ≡ None
line_with-none reading count ms not_5 not_4 not_2 not_1 =
    let five : (count == 5) ≡ false = grind arith in
    let four : (count == 4) ≡ false = grind arith in
    let two : (count == 2) ≡ false = grind arith in
    let one : (count == 1) ≡ false = grind arith in
    rw (five, four, two, one) refl

-- ---- members

abbrev without : List ℕ → List Entry → List Entry
without key es = remove_entry (is_at (λ k. slice_cmp nat_cmp key (string_bytes k))) es

step : (key other : List ℕ) (e : Entry) (es : List Entry) → other ≢ key
    → get_member other (members_view (without key es)) ≡ get_member other (members_view es)
    → (b : Bool) → is_eq (slice_cmp nat_cmp key (string_bytes e.0)) ≡ b
    → get_member other (members_view (cond b es (e ∷ without key es))) ≡ get_member other
    (members_view (e ∷ es))
step key other e es apart rest true here =
    let key_is : key ≡ string_bytes e.0 =
    same_name_is key (string_bytes e.0) (sym (is_eq-slice_cmp key (string_bytes e.0)) ∙ here) in
    sym (member_later other e es (λ same. apart (same ∙ sym key_is)))
step key other e es apart rest false there =
    ap (λ left. match_ordering (slice_cmp nat_cmp other (string_bytes e.0)) left
    (Some (view e.1)) left) rest

-- one that is taken out leaves the others
pub get_member-remove_other : (key other : List ℕ) (es : List Entry) → other ≢ key
    → get_member other (members_view (without key es)) ≡ get_member other (members_view es)
get_member-remove_other key other [] apart = refl
get_member-remove_other key other (e ∷ es) apart =
    step key other e es apart (get_member-remove_other key other es apart)
    (is_eq (slice_cmp nat_cmp key (string_bytes e.0))) refl

pub are_texts-members_view : (es : List Entry)
    → are_texts (members_view es) ≡ list_all (λ v. is_some (as_str (view v))) (values_of es)
are_texts-members_view [] = refl
are_texts-members_view (e ∷ es) = by e.0 (view e.1) (are_texts-members_view es)
  where
    by : (k : String Global) (d : Data)
        → are_texts (members_view es) ≡ list_all (λ v. is_some (as_str (view v))) (values_of es)
        → are_texts (member (string_bytes k) d (members_view es)) ≡
        (is_some (as_str d) && list_all (λ v. is_some (as_str (view v))) (values_of es))
    by k null h = refl
    by k (boolean b) h = refl
    by k (number n) h = refl
    by k (string s) h = h
    by k (array ds) h = refl
    by k (object ms) h = refl

-- the object that stands under a key, by whether its members are texts
pub texts_at-Object : (key : List ℕ) (ms : Members) (v : Value) (m : BTreeMap (String Global) Value)
    (b : Bool) → Some (view v) ≡ get_member key ms → v ≡ Object m
    → list_all (λ v. is_some (as_str (view v))) (values_of m.entries) ≡ b
    → texts_at key ms ≡ cond b (Some (members_view m.entries)) None
texts_at-Object key ms v m b found is all =
    ap (λ o. option_and_then if_texts (option_and_then as_object o))
    (sym found ∙ ap (λ v. Some (view v)) is ∙ ap Some (view-Object m))
    ∙ ap (λ t. cond t (Some (members_view m.entries)) None) (are_texts-members_view m.entries ∙ all)

-- ---- what evaluation and loading take

texts_at-are : (key : List ℕ) (ms : Members)
    → May (λ texts. are_texts texts ≡ true) (texts_at key ms)
texts_at-are key ms =
    may-then (λ texts. are_texts texts ≡ true) if_texts
    (λ texts. may-if (λ texts. are_texts texts ≡ true) texts (are_texts texts) (λ e. e))
    (option_and_then as_object (get_member key ms))

abbrev AreBuffers : Buffers → Type 0
AreBuffers (texts ms) = are_texts ms ≡ true
AreBuffers (parts ps) = are_distinct (keys_of ps) ≡ true

texts_in-are : (ms : Members) → May AreBuffers (texts_in ms)
texts_in-are ms =
    may-map-of (λ found. are_texts found ≡ true) AreBuffers texts (λ found h. h)
    (texts_at (codes "buffers") ms) (texts_at-are (codes "buffers") ms)

parts_in-are : (d : Data) → May (λ ps. are_distinct (keys_of ps) ≡ true) (parts_in d)
parts_in-are d =
    may-then (λ ps. are_distinct (keys_of ps) ≡ true) if_apart
    (λ ps. may-if (λ ps. are_distinct (keys_of ps) ≡ true) ps (are_distinct (keys_of ps)) (λ e. e))
    (option_and_then (all_of part_in) (items_in d))

raw_in-are : (ms : Members) → May AreBuffers (raw_in ms)
raw_in-are ms =
    may-map-of (λ ps. are_distinct (keys_of ps) ≡ true) AreBuffers parts (λ ps h. h)
    (parts_at (codes "raw") ms)
    (may-then (λ ps. are_distinct (keys_of ps) ≡ true) parts_in parts_in-are
    (get_member (codes "raw") ms))

buffers_in-are : (ms : Members) → May AreBuffers (buffers_in ms)
buffers_in-are ms = by (get_member (codes "buffers") ms)
  where
    by : (o : Option Data)
        → May AreBuffers (option_map_or (λ d. texts_in ms) o (raw_in ms))
    by None = raw_in-are ms
    by (Some d) = texts_in-are ms

load_of-allowed : (name : Option Name) (form : Option Data) (length : Option ℕ)
    (big : Option Bool) (buffers : Option Buffers)
    → May AreBuffers buffers
    → May IsAllowedLine (load_of name form length big buffers)
load_of-allowed (Some name) (Some form) (Some length) (Some big) (Some (texts ms)) h = h
load_of-allowed (Some name) (Some form) (Some length) (Some big) (Some (parts ps)) h = h
load_of-allowed (Some name) (Some form) (Some length) (Some big) None h = tt
load_of-allowed (Some name) (Some form) (Some length) None buffers h = tt
load_of-allowed (Some name) (Some form) None big buffers h = tt
load_of-allowed (Some name) None length big buffers h = tt
load_of-allowed None form length big buffers h = tt

load_with-allowed : (big : Option Bool) (buffers : Option Buffers) (ms : Members)
    → May AreBuffers buffers → May IsAllowedLine (load_with big buffers ms)
load_with-allowed big buffers ms h =
    load_of-allowed (name_at (codes "load") ms) (get_member (codes "form") ms)
    (count_at (codes "length") ms) big buffers h

values_with-allowed : (name : Option Name) (list : Option Data)
    → May IsAllowedLine (values_with name list)
values_with-allowed None list = tt
values_with-allowed (Some name) None = tt
values_with-allowed (Some name) (Some d) = tt

bind_of-allowed : (name : Option Name) (e : Option ExprTree) → May IsAllowed e
    → May IsAllowedLine (bind_of name e)
bind_of-allowed None e h = tt
bind_of-allowed (Some name) None h = tt
bind_of-allowed (Some name) (Some e) h = h

names-allowed : (o : Option Data) → May IsAllowedLine (option_and_then names_from o)
names-allowed None = tt
names-allowed (Some null) = tt
names-allowed (Some (boolean b)) = tt
names-allowed (Some (number n)) = tt
names-allowed (Some (string s)) = tt
names-allowed (Some (array ds)) = tt
names-allowed (Some (object ms)) = tt

expr-allowed : (f : ExprTree → Line) → ((e : ExprTree) → IsAllowed e → IsAllowedLine (f e))
    → (d : Data) → May IsAllowedLine (option_map f (expr_said d))
expr-allowed f h d = may-map-of IsAllowed IsAllowedLine f h (expr_said d) (said-is d)

or_else : (f : Data → Option Line) (o : Option Data) (other : Option Line)
    → ((d : Data) → May IsAllowedLine (f d))
    → May IsAllowedLine other → May IsAllowedLine (option_map_or f o other)
or_else f None other h k = k
or_else f (Some d) other h k = h d

single-allowed : (ms : Members) → May IsAllowedLine (single_in ms)
single-allowed ms =
    or_else _ (get_member (codes "show") ms) _ (expr-allowed show (λ e h. h))
    (or_else _ (get_member (codes "type") ms) _ (expr-allowed type_of (λ e h. h))
    (or_else _ (get_member (codes "pack") ms) _ (expr-allowed pack (λ e h. h))
    (names-allowed (get_member (codes "names") ms))))

session-allowed : (d : Data) → May IsAllowedLine (session_from d)
session-allowed d = by (u64_in d)
  where
    by : (o : Option ℕ) → May IsAllowedLine (option_and_then if_two o)
    by None = tt
    by (Some n) = may-if IsAllowedLine session (n == 2) (λ e. tt)

alone-allowed : (reading : Reading) (ms : Members) → May IsAllowedLine (alone_in reading ms)
alone-allowed First ms =
    or_else session_from (get_member (codes "session") ms) (single_in ms) session-allowed
    (single-allowed ms)
alone-allowed One ms = single-allowed ms
alone-allowed Two ms = single-allowed ms

bind-allowed : (ms : Members) → May IsAllowedLine (bind_in ms)
bind-allowed ms =
    bind_of-allowed (name_at (codes "let") ms) (expr_at (codes "be") ms)
    (may-then IsAllowed expr_said said-is (get_member (codes "be") ms))

pair-allowed : (ms : Members) → May IsAllowedLine (pair_in ms)
pair-allowed ms =
    or_else (λ d. values_in ms) (get_member (codes "values") ms) (bind_in ms)
    (λ d. values_with-allowed (name_at (codes "values") ms) (list_at (codes "from") ms))
    (bind-allowed ms)

ordered-allowed : (reading : Reading) (ms : Members)
    → May IsAllowedLine (if_version_2 reading (ordered_in ms))
ordered-allowed First ms = tt
ordered-allowed One ms = tt
ordered-allowed Two ms =
    load_with-allowed (order_at (codes "byteorder") ms) (buffers_in ms) ms (buffers_in-are ms)

one_of : (five four two one : Bool) (a b c d : Option Line) → May IsAllowedLine a
    → May IsAllowedLine b → May IsAllowedLine c → May IsAllowedLine d
    → May IsAllowedLine (cond five a (cond four b (cond two c (cond one d None))))
one_of true four two one a b c d h k l m = h
one_of false true two one a b c d h k l m = k
one_of false false true one a b c d h k l m = l
one_of false false false true a b c d h k l m = m
one_of false false false false a b c d h k l m = tt

line_of-allowed : (reading : Reading) (d : Data) → May IsAllowedLine (line_of reading d)
line_of-allowed reading null = tt
line_of-allowed reading (boolean b) = tt
line_of-allowed reading (number n) = tt
line_of-allowed reading (string s) = tt
line_of-allowed reading (array ds) = tt
line_of-allowed reading (object ms) =
    one_of (members_len ms == 5) (members_len ms == 4) (members_len ms == 2) (members_len ms == 1)
    (if_version_2 reading (ordered_in ms)) (load_in ms) (pair_in ms) (alone_in reading ms)
    (ordered-allowed reading ms)
    (load_with-allowed (Some false) (texts_in ms) ms (texts_in-are ms))
    (pair-allowed ms) (alone-allowed reading ms)

said-allowed : (o : Option Line) (line : Line) → May IsAllowedLine o → or_query o ≡ Ok line
    → IsAllowedLine line
said-allowed None line h e = absurd (cc)
said-allowed (Some l) line h e = let same : l ≡ line = cc in subst IsAllowedLine same h

-- the line that is read from a value is allowed
pub read-allowed : (reading : Reading) (d : Data) (r : Result code.Line QueryFault)
    → Gives line_view unread_told r (or_query (line_of reading d))
    → IfOk r (λ line. IsAllowedLine (line_view line))
read-allowed reading d (Ok line) h =
    said-allowed (line_of reading d) (line_view line) (line_of-allowed reading d) h
read-allowed reading d (Err e) h = tt
