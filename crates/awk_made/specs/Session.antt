-- The text of the made session: a load line of the drawn events, and seven lines about them.
use Rattle.std.specs.Prelude.{◌≡◌, ℕ, ◌+◌, List, [], ◌∷◌, ◌++◌, length, codes, decimal, refl}
use Rattle.std.specs.List.{flat_map}
use Rattle.std.specs.Int.{to_le_bytes, cast_unsigned, w8, w64}
use Rattle.std.specs.Fmt.{digits}
use Rattle.base64.specs.Engines.{standard}
use Rattle.base64.specs.GeneralPurpose.{encode_of}
use Rattle.base64.specs.Rfc4648.{encode_symbols}
use Rattle.awk_edge.specs.Lines.{unlines}
use Rattle.awk_made.specs.Draws.{Muon, events}

-- ---- the three buffers

-- how many muons there are up to each event, behind the first k
abbrev pub stops : ℕ → List (List Muon) → List ℕ
stops k [] = []
stops k (e ∷ es) = (k + length e) ∷ stops (k + length e) es

-- a whole number of eight bytes
abbrev pub number_bytes : ℕ → List ℕ
number_bytes n = to_le_bytes w64 n

abbrev pub offsets_bytes : List (List Muon) → List ℕ
offsets_bytes es = flat_map number_bytes (0 ∷ stops 0 es)

abbrev pub pt_bytes : List Muon → List ℕ
pt_bytes ms = flat_map (λ m. number_bytes m.pt) ms

abbrev pub charge_bytes : List Muon → List ℕ
charge_bytes ms = flat_map (λ m. to_le_bytes w8 (cast_unsigned w8 m.charge)) ms

-- those of all events
abbrev pub pts_bytes : List (List Muon) → List ℕ
pts_bytes es = flat_map pt_bytes es

abbrev pub charges_bytes : List (List Muon) → List ℕ
charges_bytes es = flat_map charge_bytes es

-- ---- the lines

abbrev pub load_head : List ℕ
load_head =
    codes "{\"load\":\"muons\",\"form\":{\"class\":\"ListOffsetArray\","
    ++ codes "\"offsets\":\"i64\","
    ++ codes "\"content\":{\"class\":\"RecordArray\",\"fields\":[\"pt\",\"charge\"],\"contents\":["
    ++ codes "{\"class\":\"NumpyArray\",\"primitive\":\"int64\",\"inner_shape\":[],"
    ++ codes "\"parameters\":{},\"form_key\":\"node2\"},"
    ++ codes "{\"class\":\"NumpyArray\",\"primitive\":\"int8\",\"inner_shape\":[],"
    ++ codes "\"parameters\":{},\"form_key\":\"node3\"}],"
    ++ codes "\"parameters\":{},\"form_key\":\"node1\"},"
    ++ codes "\"parameters\":{},\"form_key\":\"node0\"},\"length\":"

abbrev pub load_line : ℕ → List (List Muon) → List ℕ
load_line n es =
    load_head ++ decimal n
    ++ codes ",\"buffers\":{\"node0-offsets\":\"" ++ encode_of standard (offsets_bytes es)
    ++ codes "\",\"node2-data\":\"" ++ encode_of standard (pts_bytes es)
    ++ codes "\",\"node3-data\":\"" ++ encode_of standard (charges_bytes es) ++ codes "\"}}"

-- pairs of muons of opposite charge, and what they have together
abbrev pub pairs_line : List ℕ
pairs_line = codes "{\"let\":\"pairs\",\"be\":[\"combinations\",2,false,1,\"muons\"]}"

abbrev pub opposite_line : List ℕ
opposite_line =
    codes "{\"let\":\"opposite\",\"be\":[\"pick\",\"pairs\",[\"ne\","
    ++ codes "[\"field\",[\"field\",\"pairs\",\"0\"],\"charge\"],"
    ++ codes "[\"field\",[\"field\",\"pairs\",\"1\"],\"charge\"]]]}"

abbrev pub total_line : List ℕ
total_line =
    codes "{\"let\":\"total\",\"be\":[\"add\",[\"field\",[\"field\",\"opposite\",\"0\"],\"pt\"],"
    ++ codes "[\"field\",[\"field\",\"opposite\",\"1\"],\"pt\"]]}"

abbrev pub type_line : List ℕ
type_line = codes "{\"type\":\"total\"}"

abbrev pub count_line : List ℕ
count_line = codes "{\"show\":[\"sum\",[\"num\",\"opposite\",1]]}"

abbrev pub sum_line : List ℕ
sum_line = codes "{\"show\":[\"sum\",[\"sum\",\"total\"]]}"

abbrev pub max_line : List ℕ
max_line = codes "{\"show\":[\"max\",[\"max\",\"total\"]]}"

abbrev pub later_lines : List (List ℕ)
later_lines =
    pairs_line ∷ opposite_line ∷ total_line ∷ type_line ∷ count_line ∷ sum_line ∷ max_line ∷ []

-- the lines of the session of a seed and so many events
abbrev pub session_lines : ℕ → ℕ → List (List ℕ)
session_lines seed n = load_line n (events n seed) ∷ later_lines

-- its text
unfoldable pub session_of : ℕ → ℕ → List ℕ
session_of seed n = unlines (session_lines seed n)

-- ---- worked examples

no_event : load_line 0 (events 0 1)
    ≡ load_head ++ codes "0,\"buffers\":{\"node0-offsets\":\"AAAAAAAAAAA=\","
    ++ codes "\"node2-data\":\"\",\"node3-data\":\"\"}}"
unfolding encode_symbols digits
no_event = refl

two_events : load_line 2 (events 2 1)
    ≡ load_head ++ codes "2,\"buffers\":{\"node0-offsets\":\"AAAAAAAAAAADAAAAAAAAAAQAAAAAAAAA\","
    ++ codes "\"node2-data\":\"asYAAAAAAADF8AAAAAAAABsUAQAAAAAAW14BAAAAAAA=\","
    ++ codes "\"node3-data\":\"/wEBAQ==\"}}"
unfolding encode_symbols digits
two_events = refl
