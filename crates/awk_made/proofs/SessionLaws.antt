-- The made session has eight lines, all within the limits.
use Rattle.std.proofs.Common.{◌≡◌, ◌<◌, ◌≤◌, ℕ, ◌+◌, List, ◌++◌, length, refl}
use Rattle.std.proofs.Common.{arith, codes, decimal, length-append}
use Rattle.std.proofs.lemmas.Fmt.{length-decimal-le}
use Rattle.base64.specs.Engines.{standard}
use Rattle.base64.specs.GeneralPurpose.{encode_of}
use Rattle.awk_edge.specs.Lines.{Unbroken, AreLines, line_limit}
use Rattle.awk_edge.proofs.LineLaws.{Unbroken-append}
use Rattle.awk_json.proofs.Base64.{encode_of-unbroken}
use Rattle.awk_json.proofs.Lines.{literal-unbroken, decimal-unbroken}
use Rattle.awk_made.specs.Draws.{Muon, events}
use Rattle.awk_made.specs.Session.{load_head, load_line, pairs_line, opposite_line, total_line}
use Rattle.awk_made.specs.Session.{type_line, count_line, sum_line, max_line, session_lines}
use Rattle.awk_made.specs.Session.{offsets_bytes, pts_bytes, charges_bytes}
use Rattle.awk_made.proofs.Base64Length.{length-encode_of}
use Rattle.awk_made.proofs.Lengths.{length-offsets, length-pts, length-charges}

-- nine texts, one after another
nine : (a b c d e f g h i : List ℕ) → Unbroken a → Unbroken b → Unbroken c → Unbroken d
    → Unbroken e → Unbroken f → Unbroken g → Unbroken h → Unbroken i
    → Unbroken (a ++ b ++ c ++ d ++ e ++ f ++ g ++ h ++ i)
nine a b c d e f g h i pa pb pc pd pe pf pg ph pi =
    let ab = Unbroken-append a b pa pb in
    let abc = Unbroken-append (a ++ b) c ab pc in
    let abcd = Unbroken-append (a ++ b ++ c) d abc pd in
    let abcde = Unbroken-append (a ++ b ++ c ++ d) e abcd pe in
    let abcdef = Unbroken-append (a ++ b ++ c ++ d ++ e) f abcde pf in
    let abcdefg = Unbroken-append (a ++ b ++ c ++ d ++ e ++ f) g abcdef pg in
    let abcdefgh = Unbroken-append (a ++ b ++ c ++ d ++ e ++ f ++ g) h abcdefg ph in
    Unbroken-append (a ++ b ++ c ++ d ++ e ++ f ++ g ++ h) i abcdefgh pi

length_nine : (a b c d e f g h i : List ℕ)
    → length (a ++ b ++ c ++ d ++ e ++ f ++ g ++ h ++ i) ≡ length a + length b + length c + length d
    + length e + length f + length g + length h + length i
length_nine a b c d e f g h i = simp length-append

load_line-unbroken : (n : ℕ) (es : List (List Muon)) → Unbroken (load_line n es)
load_line-unbroken n es =
    nine load_head (decimal n) (codes ",\"buffers\":{\"node0-offsets\":\"")
    (encode_of standard (offsets_bytes es)) (codes "\",\"node2-data\":\"")
    (encode_of standard (pts_bytes es)) (codes "\",\"node3-data\":\"")
    (encode_of standard (charges_bytes es)) (codes "\"}}")
    (literal-unbroken load_head refl) (decimal-unbroken n)
    (literal-unbroken (codes ",\"buffers\":{\"node0-offsets\":\"") refl)
    (encode_of-unbroken (offsets_bytes es))
    (literal-unbroken (codes "\",\"node2-data\":\"") refl) (encode_of-unbroken (pts_bytes es))
    (literal-unbroken (codes "\",\"node3-data\":\"") refl)
    (encode_of-unbroken (charges_bytes es)) (literal-unbroken (codes "\"}}") refl)

-- the load line is the longest
pub length-load_line : (n seed : ℕ) → n ≤ 1000000 → length (load_line n (events n seed)) < 60000000
length-load_line n seed few =
    let es = events n seed in
    let all = length_nine load_head (decimal n) (codes ",\"buffers\":{\"node0-offsets\":\"")
    (encode_of standard (offsets_bytes es)) (codes "\",\"node2-data\":\"")
    (encode_of standard (pts_bytes es)) (codes "\",\"node3-data\":\"")
    (encode_of standard (charges_bytes es)) (codes "\"}}") in
    let count : length (decimal n) ≤ 7 = length-decimal-le 7 n (omega arith) (omega arith)
    (omega arith) in
    let head : length load_head ≤ 500 = omega arith in
    omega (
      arith,
      all,
      count,
      head,
      length-encode_of (offsets_bytes es),
      length-encode_of
          (pts_bytes es),
      length-encode_of (charges_bytes es),
      length-offsets n seed,
      length-pts n
          seed,
      length-charges n seed,
    )

short : (line : List ℕ) → length line < 60000000 → length line ≤ line_limit
unfolding line_limit
short line h = omega arith

literal_line : (line : List ℕ) → Unbroken line → length line ≤ 200
    → Unbroken line × (length line ≤ line_limit)
literal_line line u h = (u, short line (omega arith))

pub session_lines-within : (n seed : ℕ) → n ≤ 1000000 → AreLines (session_lines seed n)
session_lines-within n seed few = (
  (
    load_line-unbroken n (events n seed),
    short (load_line n (events n seed))
        (length-load_line n seed few),
  ),
  (
    literal_line pairs_line (literal-unbroken pairs_line refl) (omega arith),
    (
      literal_line opposite_line (literal-unbroken opposite_line refl) (omega arith),
      (
        literal_line total_line (literal-unbroken total_line refl) (omega arith),
        (
          literal_line type_line (literal-unbroken type_line refl) (omega arith),
          (
            literal_line count_line (literal-unbroken count_line refl) (omega arith),
            (
              literal_line sum_line (literal-unbroken sum_line refl) (omega arith),
              (literal_line max_line (literal-unbroken max_line refl) (omega arith), tt),
            ),
          ),
        ),
      ),
    ),
  ),
)
