-- The texts of the places from a first one to a stop, put one after another with a separator
-- between each two.
use Rattle.std.proofs.Common.{◌≡◌, ℕ, ◌+◌, ◌-◌, ◌*◌, ◌<◌, ◌≤◌, ◌==◌, List, ◌∷◌, ◌++◌, map, length}
use Rattle.std.proofs.Common.{codes, Option, Ok, Err, Result, ap, sym, ◌∙◌, arith, length-append}
use Rattle.std.specs.List.{range_with_len}
use Rattle.awk_edge.specs.Pending.{Pending}
use Rattle.awk_edge.specs.Put.{Moves}
use Rattle.awk_edge.specs.declared.output.WriteFault.{WriteFault}
use Rattle.awk_json.specs.Text.{joined, comma_joined, separator_before, comma_before}
use Rattle.awk_json.proofs.Joins.{JoinsBy, joined_after, joined_after-nothing, joins_first}
use Rattle.awk_json.proofs.Joins.{joins_next, joins_stop, joins_stop_in, joins_last, texts_left}
use Rattle.awk_json.proofs.Joins.{texts_none, separator_at_first, separator_later}
use Rattle.awk_text.proofs.Costs.{IsPaid, paid_first, paid_more}

-- the texts of f at the places from j on
abbrev pub texts_from : (ℕ → List ℕ) → ℕ → ℕ → List (List ℕ)
texts_from f j stop = map f (range_with_len j (stop - j))

-- what is still to come, each behind a comma unless it is the first
abbrev pub to_come : (ℕ → List ℕ) → ℕ → ℕ → ℕ → List ℕ
to_come f first j stop = joined_after (comma_before (j == first)) (codes ",") (texts_from f j stop)

to_come_first : (f : ℕ → List ℕ) (first stop : ℕ)
    → to_come f first first stop ≡ comma_joined (texts_from f first stop)
to_come_first f first stop =
    ap (λ s. joined_after s (codes ",") (texts_from f first stop))
    (separator_at_first (codes ",") first)
    ∙ sym (joined_after-nothing (codes ",") (texts_from f first stop))

pub to_come_more : (f : ℕ → List ℕ) (first j stop : ℕ) → first ≤ j → j < stop
    → to_come f first j stop ≡ comma_before (j == first) ++ (f j ++ to_come f first (j + 1) stop)
to_come_more f first j stop later below =
    ap (joined_after (comma_before (j == first)) (codes ",")) (texts_left f j stop below)
    ∙ ap
    (λ s. comma_before (j == first)
    ++ (f j ++ joined_after s (codes ",") (texts_from f (j + 1) stop)))
    (sym (separator_later (codes ",") first j later))

-- the text at a place is the next of them
text_at : (f : ℕ → List ℕ) (j stop : ℕ) (text : List ℕ) → j < stop → f j ≡ text
    → texts_from f j stop ≡ text ∷ texts_from f (j + 1) stop
text_at f j stop text below e =
    texts_left f j stop below ∙ ap (λ z. z ∷ texts_from f (j + 1) stop) e

-- some of a whole text is put, and what is left are the texts from place j on, and the close
abbrev pub PlacesLeft : List ℕ → Option (List ℕ) → Option (List ℕ) → Pending → List ℕ → List ℕ
    → (ℕ → List ℕ) → ℕ → ℕ → ℕ → List ℕ → Type 0
PlacesLeft separator written0 written1 mid held whole f first j stop close =
    JoinsBy separator written0 written1 mid WriteFault held whole
    (separator_before separator (j == first)) (texts_from f j stop) close

-- after the text that opens them
pub places_first : {separator : List ℕ} {written0 written1 : Option (List ℕ)} {mid : Pending}
    {u : Unit {0}}
    (held whole start : List ℕ) (f : ℕ → List ℕ) (first stop : ℕ) (close : List ℕ)
    → whole ≡ start ++ (joined separator (texts_from f first stop) ++ close)
    → Moves {E = WriteFault} written0 written1 mid (held ++ start) (Ok u)
    → PlacesLeft separator written0 written1 mid held whole f first first stop close
places_first {separator = separator} held whole start f first stop close e m =
    rw (separator_at_first separator first, e)
    (joins_first held start (texts_from f first stop) close m)

-- one text more
pub places_next : {separator : List ℕ} {written0 written1 written2 written3 : Option (List ℕ)}
    {mid near new : Pending} {u v : Unit {0}} {held whole close : List ℕ}
    (f : ℕ → List ℕ) (first j stop : ℕ) (text : List ℕ)
    → PlacesLeft separator written0 written1 mid held whole f first j stop close → first ≤ j
    → j < stop → f j ≡ text
    → Moves {E = WriteFault} written1 written2 near
    (mid.held ++ separator_before separator (j == first)) (Ok u)
    → Moves {E = WriteFault} written2 written3 new (near.held ++ text) (Ok v)
    → PlacesLeft separator written0 written3 new held whole f first (j + 1) stop close
places_next {separator = separator} f first j stop text p later below e m n =
    rw (separator_later separator first j later) (joins_next p (text_at f j stop text below e) m n)

-- the sink failed in a separator
pub places_stop : {separator : List ℕ} {written0 written1 written2 : Option (List ℕ)}
    {mid new : Pending} {e d : WriteFault} {r : Result (Unit {0}) WriteFault}
    {held whole close : List ℕ}
    (f : ℕ → List ℕ) (first j stop : ℕ)
    → PlacesLeft separator written0 written1 mid held whole f first j stop close → j < stop
    → Moves {E = WriteFault} written1 written2 new
    (mid.held ++ separator_before separator (j == first)) (Err e) → r ≡ Err d
    → Moves {E = WriteFault} written0 written2 new (held ++ whole) r
places_stop f first j stop p below m failed = joins_stop p (texts_left f j stop below) m failed

-- the sink failed in a text
pub places_stop_in : {separator : List ℕ} {written0 written1 written2 written3 : Option (List ℕ)}
    {mid near new : Pending} {u : Unit {0}} {e d : WriteFault} {r : Result (Unit {0}) WriteFault}
    {held whole close : List ℕ}
    (f : ℕ → List ℕ) (first j stop : ℕ) (text : List ℕ)
    → PlacesLeft separator written0 written1 mid held whole f first j stop close → j < stop
    → f j ≡ text
    → Moves {E = WriteFault} written1 written2 near
    (mid.held ++ separator_before separator (j == first)) (Ok u)
    → Moves {E = WriteFault} written2 written3 new (near.held ++ text) (Err e) → r ≡ Err d
    → Moves {E = WriteFault} written0 written3 new (held ++ whole) r
places_stop_in f first j stop text p below e m n failed =
    joins_stop_in p (text_at f j stop text below e) m n failed

-- no text is left, and the close was put
pub places_last : {separator : List ℕ} {written0 written1 written2 : Option (List ℕ)}
    {mid new : Pending} {r : Result (Unit {0}) WriteFault} {held whole close : List ℕ}
    (f : ℕ → List ℕ) (first j stop : ℕ)
    → PlacesLeft separator written0 written1 mid held whole f first j stop close → stop ≤ j
    → Moves {E = WriteFault} written1 written2 new (mid.held ++ close) r
    → Moves {E = WriteFault} written0 written2 new (held ++ whole) r
places_last f first j stop p past m = joins_last p (texts_none f j stop past) m

-- ---- their steps

pub paid_start : (r begun : ℕ) (whole start : List ℕ) (f : ℕ → List ℕ) (first stop : ℕ)
    (close : List ℕ)
    → whole ≡ start ++ (comma_joined (texts_from f first stop) ++ close)
    → IsPaid r begun begun (to_come f first first stop ++ close) whole
paid_start r begun whole start f first stop close e =
    let all = comma_joined (texts_from f first stop) ++ close in
    rw (to_come_first f first stop)
    (paid_first r begun all whole (omega (arith, ap length e, length-append start all)))

-- one text more
pub paid_place : (r s n begun now later : ℕ) (f : ℕ → List ℕ) (first j stop : ℕ)
    (close whole : List ℕ)
    → IsPaid r begun now (to_come f first j stop ++ close) whole → first ≤ j → j < stop
    → later ≤ now + s * n → s ≤ r → n ≤ length (f j)
    → IsPaid r begun later (to_come f first (j + 1) stop ++ close) whole
paid_place r s n begun now later f first j stop close whole p from below taken lower fits =
    let more = to_come f first (j + 1) stop in
    let comma = comma_before (j == first) in
    let all =
    ap length (to_come_more f first j stop from below) ∙ length-append comma (f j ++ more) in
    paid_more r s n begun now later (to_come f first j stop ++ close) (more ++ close) whole p taken
    lower
    (omega (
      arith,
      all,
      length-append (f j) more,
      length-append (to_come f first j stop) close,
      length-append more close,
    ))
