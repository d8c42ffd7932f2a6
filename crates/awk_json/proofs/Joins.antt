-- Texts put one after another, and texts with a separator between each two.
use Rattle.std.proofs.Common.{◌≡◌, ◌==◌, ◌<◌, ◌≤◌, ℕ, suc, ◌+◌, ◌-◌, true, false, List, [], ◌∷◌}
use Rattle.std.proofs.Common.{◌++◌, map, codes, Option, Ok, Err, Result, refl, sym, ap, ◌∙◌, subst}
use Rattle.std.proofs.Common.{arith, append_assoc, append-nil}
use Rattle.std.specs.List.{range_with_len}
use Rattle.awk_edge.specs.Pending.{Pending}
use Rattle.awk_edge.specs.Put.{Moves}
use Rattle.awk_json.specs.Text.{joined, separator_before}
use Rattle.awk_json.proofs.Puts.{stops, goes}

-- ---- a text of two parts

-- the sink failed in the first part
pub stops_at : {written0 written1 : Option (List ℕ)} {new : Pending} {E F : Type 0} {e : E} {f : F}
    {r : Result (Unit {0}) F} (held first more : List ℕ)
    → Moves {E = E} written0 written1 new (held ++ first) (Err e) → r ≡ Err f
    → Moves {E = F} written0 written1 new (held ++ (first ++ more)) r
stops_at held first more m failed = stops m failed more (sym (append_assoc held first more))

-- the first part was put, and then the second
pub goes_to : {written0 written1 written2 : Option (List ℕ)} {mid new : Pending} {E F : Type 0}
    {u : Unit {0}} {r : Result (Unit {0}) F} (held first more : List ℕ)
    → Moves {E = E} written0 written1 mid (held ++ first) (Ok u)
    → Moves {E = F} written1 written2 new (mid.held ++ more) r
    → Moves {E = F} written0 written2 new (held ++ (first ++ more)) r
goes_to held first more m n = goes m n more refl (sym (append_assoc held first more))

-- a text that is put, told in another way
pub puts_same : {written0 written1 : Option (List ℕ)} {new : Pending} {E : Type 0}
    {r : Result (Unit {0}) E} (held : List ℕ) {whole text : List ℕ}
    → whole ≡ text → Moves {E = E} written0 written1 new (held ++ text) r
    → Moves {E = E} written0 written1 new (held ++ whole) r
puts_same {written0 = written0} {written1 = written1} {new = new} {E = E} {r = r} held e m = subst
    (λ t. Moves {E = E} written0 written1 new (held ++ t) r) (sym e) m

-- ---- texts with a separator between each two

-- the first behind a text of its own
abbrev pub joined_after : List ℕ → List ℕ → List (List ℕ) → List ℕ
joined_after start separator [] = []
joined_after start separator (text ∷ texts) =
    start ++ (text ++ joined_after separator separator texts)

joined_first : (separator text : List ℕ) (texts : List (List ℕ))
    → joined separator (text ∷ texts) ≡ text ++ joined_after separator separator texts
joined_first separator text [] = sym (append-nil text)
joined_first separator text (next ∷ texts) =
    ap (λ z. (text ++ separator) ++ z) (joined_first separator next texts) ∙ append_assoc text
    separator (next ++ joined_after separator separator texts)

pub joined_after-nothing : (separator : List ℕ) (texts : List (List ℕ))
    → joined separator texts ≡ joined_after [] separator texts
joined_after-nothing separator [] = refl
joined_after-nothing separator (text ∷ texts) = joined_first separator text texts

-- of a whole text some is put, and then come the texts that are left, the first of them behind a
-- start, and the close
pub record JoinsBy (separator : List ℕ) (written0 written1 : Option (List ℕ)) (mid : Pending)
    (E : Type 0) (held whole start : List ℕ) (left : List (List ℕ)) (close : List ℕ) : Type 0 where
  pub done : List ℕ
  pub put : Moves {E = E} written0 written1 mid (held ++ done) (Ok tt)
  pub all : whole ≡ done ++ (joined_after start separator left ++ close)

-- the same with commas
abbrev pub Joins : Option (List ℕ) → Option (List ℕ) → Pending → (E : Type 0) → List ℕ → List ℕ
    → List ℕ → List (List ℕ) → List ℕ → Type 0
Joins written0 written1 mid E held whole start left close =
    JoinsBy (codes ",") written0 written1 mid E held whole start left close

-- after the text that opens them
pub joins_first : {separator : List ℕ} {written0 written1 : Option (List ℕ)} {mid : Pending}
    {E : Type 0} {u : Unit {0}} (held opening : List ℕ) (texts : List (List ℕ)) (close : List ℕ)
    → Moves {E = E} written0 written1 mid (held ++ opening) (Ok u)
    → JoinsBy separator written0 written1 mid E held
    (opening ++ (joined separator texts ++ close)) [] texts close
joins_first {separator = separator} held opening texts close m =
    record {
      done = opening;
      put = m;
      all = ap (λ z. opening ++ (z ++ close))
          (joined_after-nothing separator texts);
    }

-- what is left, one text at a time
left_next : (separator done start text : List ℕ) (texts : List (List ℕ)) (close : List ℕ)
    → done ++ (joined_after start separator (text ∷ texts) ++ close) ≡ done ++
    (start ++ (text ++ (joined_after separator separator texts ++ close)))
left_next separator done start text texts close = simp append_assoc

-- one text more, behind its start
pub joins_next : {separator : List ℕ} {written0 written1 written2 written3 : Option (List ℕ)}
    {mid near new : Pending} {E : Type 0} {u v : Unit {0}} {held whole start text close : List ℕ}
    {left texts : List (List ℕ)}
    → JoinsBy separator written0 written1 mid E held whole start left close → left ≡ text ∷ texts
    → Moves {E = E} written1 written2 near (mid.held ++ start) (Ok u)
    → Moves {E = E} written2 written3 new (near.held ++ text) (Ok v)
    → JoinsBy separator written0 written3 new E held whole separator texts close
joins_next {separator = separator} {held = held} {start = start} {text = text} {close = close}
    {texts = texts} j e m n = record {
      done = j.done ++ (start ++ text);
      put = goes_to held j.done (start ++ text) j.put (goes_to _ start text m n);
      all =
          j.all ∙ ap (λ z. j.done ++ (joined_after start separator z ++ close)) e ∙ simp
          append_assoc;
    }

-- the sink failed in what stands before a text
pub joins_stop : {separator : List ℕ} {written0 written1 written2 : Option (List ℕ)}
    {mid new : Pending} {E F : Type 0} {e : E} {f : F} {r : Result (Unit {0}) F}
    {held whole start text close : List ℕ} {left texts : List (List ℕ)}
    → JoinsBy separator written0 written1 mid E held whole start left close → left ≡ text ∷ texts
    → Moves {E = E} written1 written2 new (mid.held ++ start) (Err e) → r ≡ Err f
    → Moves {E = F} written0 written2 new (held ++ whole) r
joins_stop {separator = separator} {written0 = written0} {written2 = written2} {new = new} {F = F}
    {r = r} {held = held} {start = start} {text = text} {close = close} {texts = texts} j is m
    failed =
    rw (j.all, is, left_next separator j.done start text texts close)
    (goes_to held j.done _ j.put (stops_at _ start _ m failed))

-- the sink failed in a text
pub joins_stop_in : {separator : List ℕ} {written0 written1 written2 written3 : Option (List ℕ)}
    {mid near new : Pending} {E F : Type 0} {u : Unit {0}} {e : E} {f : F} {r : Result (Unit {0}) F}
    {held whole start text close : List ℕ} {left texts : List (List ℕ)}
    → JoinsBy separator written0 written1 mid E held whole start left close → left ≡ text ∷ texts
    → Moves {E = E} written1 written2 near (mid.held ++ start) (Ok u)
    → Moves {E = E} written2 written3 new (near.held ++ text) (Err e) → r ≡ Err f
    → Moves {E = F} written0 written3 new (held ++ whole) r
joins_stop_in {separator = separator} {held = held} {start = start} {text = text} {close = close}
    {texts = texts} j is m n failed =
    rw (j.all, is, left_next separator j.done start text texts close)
    (goes_to held j.done _ j.put (goes_to _ start _ m (stops_at _ text _ n failed)))

-- no text is left, and the close was put
pub joins_last : {separator : List ℕ} {written0 written1 written2 : Option (List ℕ)}
    {mid new : Pending} {E F : Type 0} {r : Result (Unit {0}) F} {held whole start close : List ℕ}
    {left : List (List ℕ)}
    → JoinsBy separator written0 written1 mid E held whole start left close → left ≡ []
    → Moves {E = F} written1 written2 new (mid.held ++ close) r
    → Moves {E = F} written0 written2 new (held ++ whole) r
joins_last {held = held} {close = close} j is m = rw (j.all, is) (goes_to held j.done close j.put m)

-- ---- the texts of the places from j to a stop, in a loop that began at a first place

-- the next one, and nothing after the last
pub texts_left : (f : ℕ → List ℕ) (j stop : ℕ) → j < stop
    → map f (range_with_len j (stop - j)) ≡ f j ∷ map f (range_with_len (j + 1) (stop - (j + 1)))
texts_left f j stop below =
    let more : stop - j ≡ suc (stop - (j + 1)) = omega arith in ap (λ n. map f (range_with_len j n))
    more

pub texts_none : (f : ℕ → List ℕ) (j stop : ℕ) → stop ≤ j → map f (range_with_len j (stop - j)) ≡ []
texts_none f j stop past =
    let none : stop - j ≡ 0 = omega arith in ap (λ n. map f (range_with_len j n)) none

-- no separator stands before the first of them, and one before each later one
pub separator_at_first : (separator : List ℕ) (first : ℕ)
    → separator_before separator (first == first) ≡ []
separator_at_first separator first =
    let same : (first == first) ≡ true = grind arith in ap (separator_before separator) same

pub separator_later : (separator : List ℕ) (first j : ℕ) → first ≤ j
    → separator_before separator (j + 1 == first) ≡ separator
separator_later separator first j later =
    let other : (j + 1 == first) ≡ false = grind arith in ap (separator_before separator) other
