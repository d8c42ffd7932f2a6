-- Runs of a list's texts, each behind its comma.
use Rattle.std.proofs.Common.{◌≡◌, ℕ, zero, suc, ◌+◌, ◌-◌, ◌<◌, ◌≤◌, ◌==◌, List, [], ◌++◌, length}
use Rattle.std.proofs.Common.{codes, Option, Ok, Err, Result, ap, sym, ◌∙◌, arith, append_assoc}
use Rattle.std.proofs.Common.{length-append, add-zero}
use Rattle.std.specs.List.{range_with_len, flat_map}
use Rattle.awk_edge.specs.Pending.{Pending}
use Rattle.awk_edge.specs.Put.{Moves}
use Rattle.awk_edge.specs.declared.output.WriteFault.{WriteFault}
use Rattle.awk_json.specs.Text.{comma_before}
use Rattle.awk_json.proofs.Joins.{stops_at, goes_to}
use Rattle.awk_text.proofs.Costs.{IsPaid, paid_more}
use Rattle.awk_text.proofs.Places.{PlacesLeft, to_come, to_come_more}

-- a text behind its comma
abbrev piece : (ℕ → List ℕ) → ℕ → ℕ → List ℕ
piece f first k = comma_before (k == first) ++ f k

abbrev pub pieces : (ℕ → List ℕ) → ℕ → ℕ → ℕ → List ℕ
pieces f first j stop =
    flat_map (λ k. comma_before (k == first) ++ f k) (range_with_len j (stop - j))

pub pieces_none : (f : ℕ → List ℕ) (first j : ℕ) → pieces f first j j ≡ []
pieces_none f first j = let none : j - j ≡ 0 = omega arith in
    ap (λ n. flat_map (piece f first) (range_with_len j n)) none

pub pieces_more : (f : ℕ → List ℕ) (first j stop : ℕ) → j < stop
    → pieces f first j stop ≡ comma_before (j == first) ++ (f j ++ pieces f first (j + 1) stop)
pieces_more f first j stop below =
    let more : stop - j ≡ suc (stop - (j + 1)) = omega arith in
    ap (λ n. flat_map (piece f first) (range_with_len j n)) more
    ∙ append_assoc (comma_before (j == first)) (f j) (pieces f first (j + 1) stop)

-- what is to come from place j on begins with the n pieces from there
come_by : (f : ℕ → List ℕ) (first j stop n : ℕ) → first ≤ j → j + n ≤ stop
    → to_come f first j stop ≡ flat_map (piece f first)
    (range_with_len j n) ++ to_come f first (j + n) stop
come_by f first j stop zero from within = ap (λ k. to_come f first k stop) (sym (add-zero j))
come_by f first j stop (suc n) from within =
    let next : j + 1 + n ≡ j + suc n = omega arith in
    to_come_more f first j stop from (omega arith)
    ∙ ap (λ z. comma_before (j == first) ++ (f j ++ z))
    (come_by f first (j + 1) stop n (omega arith) (omega arith)
    ∙ ap (λ k. flat_map (piece f first) (range_with_len (j + 1) n) ++ to_come f first k stop)
    next)
    ∙ simp append_assoc

come_run : (f : ℕ → List ℕ) (first j m stop : ℕ) → first ≤ j → j ≤ m → m ≤ stop
    → to_come f first j stop ≡ pieces f first j m ++ to_come f first m stop
come_run f first j m stop from ordered within =
    let there : j + (m - j) ≡ m = omega arith in
    come_by f first j stop (m - j) from (omega arith)
    ∙ ap (λ k. pieces f first j m ++ to_come f first k stop) there

-- a run was put
pub places_run : {written0 written1 written2 : Option (List ℕ)} {mid new : Pending} {u : Unit {0}}
    {held whole close : List ℕ}
    (f : ℕ → List ℕ) (first j m stop : ℕ) (text : List ℕ)
    → PlacesLeft (codes ",") written0 written1 mid held whole f first j stop close → first ≤ j
    → j ≤ m → m ≤ stop → text ≡ pieces f first j m
    → Moves {E = WriteFault} written1 written2 new (mid.held ++ text) (Ok u)
    → PlacesLeft (codes ",") written0 written2 new held whole f first m stop close
places_run {held = held} {close = close} f first j m stop text p from ordered within e moved =
    record {
      done = p.done ++ text;
      put = goes_to held p.done text p.put moved;
      all = p.all ∙ ap (λ z. p.done ++ (z ++ close))
          (come_run f first j m stop from ordered within ∙ ap (λ z. z ++ to_come f first m stop)
          (sym e)) ∙ simp append_assoc;
    }

-- the sink failed in a run
pub places_stop_run : {written0 written1 written2 : Option (List ℕ)} {mid new : Pending}
    {e d : WriteFault} {r : Result (Unit {0}) WriteFault} {held whole close : List ℕ}
    (f : ℕ → List ℕ) (first j m stop : ℕ) (text : List ℕ)
    → PlacesLeft (codes ",") written0 written1 mid held whole f first j stop close → first ≤ j
    → j ≤ m → m ≤ stop → text ≡ pieces f first j m
    → Moves {E = WriteFault} written1 written2 new (mid.held ++ text) (Err e) → r ≡ Err d
    → Moves {E = WriteFault} written0 written2 new (held ++ whole) r
places_stop_run {held = held} {close = close} f first j m stop text p from ordered within e moved
    failed =
    let left = come_run f first j m stop from ordered within ∙ ap (λ z. z ++ to_come f first m stop)
    (sym e) in
    let all = p.all ∙ ap (λ z. p.done ++ (z ++ close)) left
    ∙ ap (λ z. p.done ++ z) (append_assoc text (to_come f first m stop) close) in
    rw all (goes_to held p.done _ p.put (stops_at _ text _ moved failed))

-- no piece is empty
pieces_long : (f : ℕ → List ℕ) (first j n : ℕ) → ((k : ℕ) → 0 < length (f k))
    → n ≤ length (flat_map (piece f first) (range_with_len j n))
pieces_long f first j zero some = omega arith
pieces_long f first j (suc n) some =
    let rest = flat_map (piece f first) (range_with_len (j + 1) n) in
    omega (
      arith,
      some j,
      pieces_long f first (j + 1) n some,
      length-append (piece f first j) rest,
      length-append (comma_before (j == first)) (f j),
    )

-- a step for each text of a run
pub paid_run : (begun now later : ℕ) (f : ℕ → List ℕ) (first j m stop : ℕ) (close whole : List ℕ)
    → ((k : ℕ) → 0 < length (f k))
    → IsPaid 1 begun now (to_come f first j stop ++ close) whole → first ≤ j → j ≤ m → m ≤ stop
    → later ≤ now + (m - j)
    → IsPaid 1 begun later (to_come f first m stop ++ close) whole
paid_run begun now later f first j m stop close whole some p from ordered within taken =
    let more = to_come f first m stop in
    let run = pieces f first j m in
    let all = ap length (come_run f first j m stop from ordered within) ∙ length-append run more in
    paid_more 1 1 (m - j) begun now later (to_come f first j stop ++ close) (more ++ close) whole p
    (omega arith) (omega arith)
    (omega (
      arith,
      all,
      pieces_long f first j (m - j) some,
      length-append (to_come f first j stop)
          close,
      length-append more close,
    ))
