-- The units of the made session are its lines, all whole and within the limits.
use Rattle.std.proofs.Common.{◌≡◌, ◌≤◌, ◌&&◌, ℕ, zero, suc, true, false, List, [], ◌∷◌}
use Rattle.std.proofs.Common.{length, refl, ap, sym, ◌∙◌, arith}
use Rattle.std.specs.Char.{encode_utf8}
use Rattle.std.specs.List.{AllByRecursion}
use Rattle.std.specs.Str.{IsUtf8}
use Rattle.std.proofs.lemmas.Bool.{le-leb}
use Rattle.std.proofs.lemmas.Str.{is_utf8-from_IsUtf8}
use Rattle.serde_json.specs.Read.{read}
use Rattle.serde_json.proofs.OnLiterals.{serde_json_on_literals}
use Rattle.awk_edge.specs.Lines.{AreLines, line_limit, lines_limit}
use Rattle.awk_edge.specs.UnitLimits.{IsSmall}
use Rattle.awk_edge.specs.Units.{raw_limit, is_whole, is_small, whole_units}
use Rattle.awk_edge.proofs.PlainUnits.{plain_unit, plain_units, AskForNone, units-plain}
use Rattle.awk_edge.proofs.UnitLaws.{whole_units-nil, whole_units-cons}
use Rattle.awk_edge.proofs.LineLaws.{few_lines}
use Rattle.awk_made.specs.Draws.{events}
use Rattle.awk_made.specs.Session.{load_line, pairs_line, opposite_line, total_line, type_line}
use Rattle.awk_made.specs.Session.{count_line, sum_line, max_line, session_lines, session_of}
use Rattle.awk_made.proofs.SessionLaws.{session_lines-within}
use Rattle.awk_query.specs.Line.{or_json}
use Rattle.awk_query.specs.declared.reading.Reading.{Reading}
use Rattle.awk_query.specs.declared.reading.Reading.TheVariants.{First}
use Rattle.awk_framing.specs.Framing.{raw_asked, session_framing, session_units, ended_session}
use Rattle.awk_framing.proofs.Asked.{has_five, raw_asked-first, raw_asked-few}
use Rattle.awk_run.specs.Session.{IsWithin}

-- ---- no line of it asks for raw bytes

-- a line of UTF-8 whose value is no object of five members
few_members : (line : List ℕ) → IsUtf8 line → has_five (or_json (read line)) ≡ false
    → (r : Reading) → raw_asked r line ≡ 0
few_members line text e r =
    raw_asked-few r line (rw (is_utf8-from_IsUtf8 line text) e)

pairs_ask : (r : Reading) → raw_asked r pairs_line ≡ 0
unfolding encode_utf8 serde_json_on_literals
pairs_ask = few_members pairs_line (pairs_line, (refl, refl)) refl

opposite_ask : (r : Reading) → raw_asked r opposite_line ≡ 0
unfolding encode_utf8 serde_json_on_literals
opposite_ask = few_members opposite_line (opposite_line, (refl, refl)) refl

total_ask : (r : Reading) → raw_asked r total_line ≡ 0
unfolding encode_utf8 serde_json_on_literals
total_ask = few_members total_line (total_line, (refl, refl)) refl

type_ask : (r : Reading) → raw_asked r type_line ≡ 0
unfolding encode_utf8 serde_json_on_literals
type_ask = few_members type_line (type_line, (refl, refl)) refl

count_ask : (r : Reading) → raw_asked r count_line ≡ 0
unfolding encode_utf8 serde_json_on_literals
count_ask = few_members count_line (count_line, (refl, refl)) refl

sum_ask : (r : Reading) → raw_asked r sum_line ≡ 0
unfolding encode_utf8 serde_json_on_literals
sum_ask = few_members sum_line (sum_line, (refl, refl)) refl

max_ask : (r : Reading) → raw_asked r max_line ≡ 0
unfolding encode_utf8 serde_json_on_literals
max_ask = few_members max_line (max_line, (refl, refl)) refl

ask_for_none : (n seed : ℕ) → AskForNone session_framing First (session_lines seed n)
ask_for_none n seed = (
  raw_asked-first (load_line n (events n seed)),
  (
    pairs_ask _,
    (
      opposite_ask _,
      (total_ask _, (type_ask _, (count_ask _, (sum_ask _, (max_ask _, tt))))),
    ),
  ),
)

-- ---- lines that ask for none, as units

are_small : (ls : List (List ℕ)) → AreLines ls → AllByRecursion IsSmall (plain_units ls)
are_small [] a = tt
are_small (l ∷ ls) a = (record { short = a.0.1; few = omega arith }, are_small ls a.1)

length-plain : (ls : List (List ℕ)) → length (plain_units ls) ≡ length ls
length-plain [] = refl
length-plain (l ∷ ls) = ap (λ n. suc n) (length-plain ls)

passes : (line : List ℕ) → length line ≤ line_limit
    → (is_whole (plain_unit line) && is_small (plain_unit line)) ≡ true
passes line h = rw (le-leb (length line) line_limit h, le-leb 0 raw_limit (omega arith)) refl

all_whole : (n : ℕ) (ls : List (List ℕ)) → AreLines ls → length ls ≤ n
    → whole_units n (plain_units ls) ≡ plain_units ls
all_whole zero [] a h = whole_units-nil 0
all_whole (suc n) [] a h = whole_units-nil (suc n)
all_whole zero (l ∷ ls) a h = absurd (omega arith)
all_whole (suc n) (l ∷ ls) a h =
    whole_units-cons n (plain_unit l) (plain_units ls) (passes l a.0.1)
    ∙ ap (λ us. plain_unit l ∷ us) (all_whole n ls a.1 (omega arith))

-- ---- the made session

pub made-units : (n seed : ℕ) → n ≤ 1000000
    → session_units (session_of seed n) ≡ plain_units (session_lines seed n)
unfolding session_of
made-units n seed few =
    units-plain session_framing First (session_lines seed n) (session_lines-within n seed few)
    (ask_for_none n seed)

pub made-within : (n seed : ℕ) → n ≤ 1000000 → IsWithin (session_of seed n)
made-within n seed few = record {
  small = rw (made-units n seed few)
      (are_small (session_lines seed n) (session_lines-within n seed few));
  few = rw (made-units n seed few, length-plain (session_lines seed n)) few_lines;
}

pub made-ended : (n seed : ℕ) → n ≤ 1000000
    → ended_session (session_of seed n) ≡ session_units (session_of seed n)
made-ended n seed few =
    ap (whole_units lines_limit) (made-units n seed few)
    ∙ all_whole lines_limit (session_lines seed n) (session_lines-within n seed few) few_lines
    ∙ sym (made-units n seed few)
