-- The line that bytes are.
use Rattle.std.specs.Prelude.{ℕ, Bool, true, false, ◌==◌, List, [], ◌∷◌, map, Option, Some, None}
use Rattle.std.specs.Prelude.{Result, Ok, Err, option_map, option_and_then, if◌then◌else◌, codes}
use Rattle.std.specs.Option.{option_map_or}
use Rattle.std.specs.Str.{is_utf8}
use Rattle.serde_json.specs.Data.{Data, null, string, array, object, Members, no_members, member}
use Rattle.serde_json.specs.Find.{get_member, as_str, as_number, as_u64, as_object}
use Rattle.serde_json.specs.Read.{read}
use Rattle.serde_json.specs.Events.{members_len}
use Rattle.awk_types.specs.DataType.{Name}
use Rattle.awk_types.specs.Names.{same_name, are_distinct}
use Rattle.awk_expr.specs.Arguments.{all_of, items_in, u64_in}
use Rattle.awk_expr.specs.ExprTree.{ExprTree}
use Rattle.awk_expr.specs.Reading.{expr_said}
use Rattle.awk_expr.specs.Told.{Unread, json, or_query}
use Rattle.awk_query.specs.declared.reading.RawPart.{RawPart}
use Rattle.awk_query.specs.declared.reading.Reading.{Reading}
use Rattle.awk_query.specs.declared.reading.Reading.TheVariants.{First, Two}

-- what a load line has: the texts of buffers by their keys, or buffers whose bytes follow it
pub data Buffers : Type 0 where
  texts : Members → Buffers
  parts : List RawPart → Buffers

-- A load line has a name, a form, a length, whether the most significant byte of a number comes
-- first, and its buffers; a let line a name and an expression, a values line a name and a list, and
-- a show, type or pack line an expression. A session line begins version 2.
pub data Line : Type 0 where
  load : Name → Data → ℕ → Bool → Buffers → Line
  session : Line
  bind : Name → ExprTree → Line
  values : Name → Data → Line
  show : ExprTree → Line
  type_of : ExprTree → Line
  pack : ExprTree → Line
  names : Line

-- ---- what stands under a key

abbrev pub text_at : List ℕ → Members → Option (List ℕ)
text_at key ms = option_and_then as_str (get_member key ms)

-- a text that is not empty
abbrev pub some_text : List ℕ → Option (List ℕ)
some_text [] = None
some_text (b ∷ bs) = Some (b ∷ bs)

abbrev pub name_at : List ℕ → Members → Option Name
name_at key ms = option_and_then some_text (text_at key ms)

-- a number that serde_json keeps as u64
abbrev pub count_at : List ℕ → Members → Option ℕ
count_at key ms = option_and_then as_u64 (option_and_then as_number (get_member key ms))

abbrev pub expr_at : List ℕ → Members → Option ExprTree
expr_at key ms = option_and_then expr_said (get_member key ms)

-- whether each member is a text
abbrev pub are_texts : Members → Bool
are_texts no_members = true
are_texts (member key (string s) more) = are_texts more
are_texts (member key _ more) = false

abbrev pub if_texts : Members → Option Members
if_texts ms = if are_texts ms then Some ms else None

abbrev pub texts_at : List ℕ → Members → Option Members
texts_at key ms = option_and_then if_texts (option_and_then as_object (get_member key ms))

-- the order of bytes: whether the most significant one of a number comes first
abbrev pub order_of : List ℕ → Option Bool
order_of text =
    if same_name text (codes "<") then Some false
    else if same_name text (codes ">") then Some true
    else None

abbrev pub order_at : List ℕ → Members → Option Bool
order_at key ms = option_and_then order_of (text_at key ms)

-- a key and a number of bytes
abbrev pub part_with : Option Name → Option ℕ → Option RawPart
part_with (Some k) (Some n) = Some (record { key = k; count = n })
part_with _ _ = None

abbrev pub part_from : List Data → Option RawPart
part_from (k ∷ n ∷ []) = part_with (as_str k) (u64_in n)
part_from _ = None

abbrev pub part_in : Data → Option RawPart
part_in d = option_and_then part_from (items_in d)

abbrev pub keys_of : List RawPart → List Name
keys_of ps = map (λ p. p.key) ps

-- no key twice
abbrev pub if_apart : List RawPart → Option (List RawPart)
if_apart ps = if are_distinct (keys_of ps) then Some ps else None

abbrev pub parts_in : Data → Option (List RawPart)
parts_in d = option_and_then if_apart (option_and_then (all_of part_in) (items_in d))

abbrev pub parts_at : List ℕ → Members → Option (List RawPart)
parts_at key ms = option_and_then parts_in (get_member key ms)

-- a list
abbrev pub if_list : Data → Option Data
if_list (array ds) = Some (array ds)
if_list _ = None

abbrev pub list_at : List ℕ → Members → Option Data
list_at key ms = option_and_then if_list (get_member key ms)

-- ---- lines

-- the line of these parts, if they are all there
abbrev pub load_of : Option Name → Option Data → Option ℕ → Option Bool → Option Buffers
    → Option Line
load_of (Some name) (Some form) (Some length) (Some big) (Some buffers) =
    Some (load name form length big buffers)
load_of _ _ _ _ _ = None

abbrev pub load_with : Option Bool → Option Buffers → Members → Option Line
load_with big buffers ms =
    load_of (name_at (codes "load") ms) (get_member (codes "form") ms)
    (count_at (codes "length") ms) big buffers

abbrev pub texts_in : Members → Option Buffers
texts_in ms = option_map texts (texts_at (codes "buffers") ms)

abbrev pub raw_in : Members → Option Buffers
raw_in ms = option_map parts (parts_at (codes "raw") ms)

-- texts, or else bytes that follow
abbrev pub buffers_in : Members → Option Buffers
buffers_in ms = option_map_or (λ d. texts_in ms) (get_member (codes "buffers") ms) (raw_in ms)

-- of the order that it says
abbrev pub ordered_in : Members → Option Line
ordered_in ms = load_with (order_at (codes "byteorder") ms) (buffers_in ms) ms

-- texts alone, the least significant byte first
abbrev pub load_in : Members → Option Line
load_in ms = load_with (Some false) (texts_in ms) ms

abbrev pub bind_of : Option Name → Option ExprTree → Option Line
bind_of (Some name) (Some e) = Some (bind name e)
bind_of _ _ = None

abbrev pub bind_in : Members → Option Line
bind_in ms = bind_of (name_at (codes "let") ms) (expr_at (codes "be") ms)

abbrev pub values_with : Option Name → Option Data → Option Line
values_with (Some name) (Some list) = Some (values name list)
values_with _ _ = None

abbrev pub values_in : Members → Option Line
values_in ms = values_with (name_at (codes "values") ms) (list_at (codes "from") ms)

-- a line of two members, by the key that is there
abbrev pub pair_in : Members → Option Line
pair_in ms = option_map_or (λ d. values_in ms) (get_member (codes "values") ms) (bind_in ms)

-- the line that lists the names
abbrev pub names_from : Data → Option Line
names_from null = Some names
names_from _ = None

-- a line of one member, by the key that is there
abbrev pub single_in : Members → Option Line
single_in ms =
    option_map_or (λ d. option_map show (expr_said d)) (get_member (codes "show") ms) (
    option_map_or (λ d. option_map type_of (expr_said d)) (get_member (codes "type") ms) (
    option_map_or (λ d. option_map pack (expr_said d)) (get_member (codes "pack") ms) (
    option_and_then names_from (get_member (codes "names") ms))))

abbrev pub if_two : ℕ → Option Line
if_two n = if n == 2 then Some session else None

-- the line that begins version 2
abbrev pub session_from : Data → Option Line
session_from d = option_and_then if_two (u64_in d)

abbrev pub first_in : Members → Option Line
first_in ms = option_map_or session_from (get_member (codes "session") ms) (single_in ms)

-- ---- readings

abbrev pub if_version_2 : Reading → Option Line → Option Line
if_version_2 Two line = line
if_version_2 _ line = None

abbrev pub alone_in : Reading → Members → Option Line
alone_in First ms = first_in ms
alone_in _ ms = single_in ms

-- the line that an object of so many members is: exactly these members, since it has each key once
abbrev pub line_with : Reading → ℕ → Members → Option Line
line_with reading count ms =
    if count == 5 then if_version_2 reading (ordered_in ms)
    else if count == 4 then load_in ms
    else if count == 2 then pair_in ms
    else if count == 1 then alone_in reading ms
    else None

-- the line that a value is
abbrev pub line_of : Reading → Data → Option Line
line_of reading (object ms) = line_with reading (members_len ms) ms
line_of reading _ = None

-- ---- bytes

-- the value that serde_json reads from a line
abbrev pub json_of : List ℕ → Option Data
json_of line = if is_utf8 line then read line else None

abbrev pub or_json : Option Data → Result Data Unread
or_json None = Err json
or_json (Some d) = Ok d

abbrev pub json_said : List ℕ → Result Data Unread
json_said line = or_json (json_of line)

abbrev pub line_or_unread : Reading → Result Data Unread → Result Line Unread
line_or_unread reading (Ok d) = or_query (line_of reading d)
line_or_unread reading (Err unread) = Err unread

-- the line that bytes are, or why they are none
abbrev pub line_said : Reading → List ℕ → Result Line Unread
line_said reading line = line_or_unread reading (json_said line)
