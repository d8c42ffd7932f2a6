-- Runs of equal neighbours: how they grow, and those of neighbouring lists.
use Rattle.std.specs.Prelude.{◌≡◌, ℕ, zero, suc, ◌+◌, ◌-◌, ◌<◌, ◌≤◌, refl, List, [], ◌∷◌, ◌++◌}
use Rattle.std.specs.Prelude.{length, map, Bool, true, false, ℤ, pos, if◌then◌else◌}
use Rattle.std.specs.Ordering.{int_eq}
use Rattle.std.proofs.Common.{arith, ap, ap₂, sym, ◌∙◌}
use Rattle.std.proofs.lemmas.List.{length-append, length-map}
use Rattle.awk_types.specs.Value.{Value, value_list}
use Rattle.awk_lanes.specs.Column.{Column}
use Rattle.awk_lanes.specs.Numbers.{is_nonzero, element}
use Rattle.awk_lanes.specs.Places.{at}
use Rattle.awk_lanes.specs.declared.kind.Kind.{Kind}
use Rattle.awk_lanes.specs.declared.kind.Kind.TheVariants as kinds
use Rattle.awk_layout.specs.Item.{leaf_value, run, agrees}
use Rattle.awk_lists.specs.RunLengths.{is_same, longer, runs}
use Rattle.awk_lists.specs.Runs.{values_between, runs_between}

-- ---- the first run

-- k more items before a run
abbrev pub longer_by : ℕ → List ℕ → List ℕ
longer_by k [] = []
longer_by k (n ∷ ns) = (k + n) ∷ ns

pub longer_by-next : (k : ℕ) (ns : List ℕ) → longer_by k (longer ns) ≡ longer_by (k + 1) ns
longer_by-next k [] = refl
longer_by-next k (n ∷ ns) = let e : k + suc n ≡ k + 1 + n = omega arith in ap (λ m. m ∷ ns) e

-- ---- the values of a lane

same_truth : (a b : Bool)
    → int_eq (pos (if a then 1 else 0)) (pos (if b then 1 else 0)) ≡ agrees a b
same_truth true true = refl
same_truth true false = refl
same_truth false true = refl
same_truth false false = refl

nonzero_element : (z : ℤ) → is_nonzero (element kinds.Bool z) ≡ is_nonzero z
nonzero_element z = go (is_nonzero z)
  where
    go : (b : Bool) → is_nonzero (pos (if b then 1 else 0)) ≡ b
    go true = refl
    go false = refl

-- equal numbers of a kind are equal values
same_value : (k : Kind) (y z : ℤ)
    → is_same (leaf_value k (element k y)) (leaf_value k (element k z))
    ≡ int_eq (element k y) (element k z)
same_value kinds.Bool y z =
    ap₂ agrees (nonzero_element y) (nonzero_element z)
    ∙ sym (same_truth (is_nonzero y) (is_nonzero z))
same_value kinds.I8 y z = refl
same_value kinds.I16 y z = refl
same_value kinds.I32 y z = refl
same_value kinds.I64 y z = refl
same_value kinds.U8 y z = refl
same_value kinds.U16 y z = refl
same_value kinds.U32 y z = refl
same_value kinds.U64 y z = refl

abbrev value_at : Column → ℕ → Value
value_at c i = leaf_value c.kind (at c i)

values_two : (c : Column) (a stop : ℕ) → a + 1 < stop
    → values_between c a stop ≡ value_at c a ∷ values_between c (a + 1) stop
values_two c a stop p =
    let n : stop - a ≡ suc (stop - (a + 1)) = omega (arith, p) in
    let e : suc a ≡ a + 1 = omega arith in
    ap (λ k. value_list (run (value_at c) a k)) n
    ∙ ap (λ k. value_at c a ∷ value_list (run (value_at c) k (stop - (a + 1)))) e

values_first : (c : Column) (a stop : ℕ) → a < stop
    → values_between c a stop
    ≡ value_at c a ∷ value_list (run (value_at c) (a + 1) (stop - a - 1))
values_first c a stop p =
    let n : stop - a ≡ suc (stop - a - 1) = omega (arith, p) in
    let e : suc a ≡ a + 1 = omega arith in
    ap (λ k. value_list (run (value_at c) a k)) n
    ∙ ap (λ k. value_at c a ∷ value_list (run (value_at c) k (stop - a - 1))) e

runs_pair : (v w : Value) (vs : List Value)
    → runs (v ∷ w ∷ vs) ≡ (if is_same v w then longer (runs (w ∷ vs)) else 1 ∷ runs (w ∷ vs))
runs_pair v w vs = refl

-- the runs from a place on, by those from the next
runs_step : (c : Column) (a stop : ℕ) → a + 1 < stop
    → runs_between c a stop
    ≡ (if int_eq (at c a) (at c (a + 1)) then longer (runs_between c (a + 1) stop)
    else 1 ∷ runs_between c (a + 1) stop)
runs_step c a stop p =
    let rest : List Value = value_list (run (value_at c) (a + 1 + 1) (stop - (a + 1) - 1)) in
    let two : values_between c (a + 1) stop ≡ value_at c (a + 1) ∷ rest =
    values_first c (a + 1) stop p in
    ap runs (values_two c a stop p ∙ ap (λ vs. value_at c a ∷ vs) two)
    ∙ runs_pair (value_at c a) (value_at c (a + 1)) rest
    ∙ ap (λ vs. if is_same (value_at c a) (value_at c (a + 1)) then longer (runs vs)
    else 1 ∷ runs vs) (sym two)
    ∙ ap (λ b. if b then longer (runs_between c (a + 1) stop)
    else 1 ∷ runs_between c (a + 1) stop) (same_value c.kind _ _)

pub runs_same : (c : Column) (a stop : ℕ) → a + 1 < stop → int_eq (at c a) (at c (a + 1)) ≡ true
    → runs_between c a stop ≡ longer (runs_between c (a + 1) stop)
runs_same c a stop p e =
    runs_step c a stop p
    ∙ ap (λ b. if b then longer (runs_between c (a + 1) stop)
    else 1 ∷ runs_between c (a + 1) stop) e

pub runs_other : (c : Column) (a stop : ℕ) → a + 1 < stop → int_eq (at c a) (at c (a + 1)) ≡ false
    → runs_between c a stop ≡ 1 ∷ runs_between c (a + 1) stop
runs_other c a stop p e =
    runs_step c a stop p
    ∙ ap (λ b. if b then longer (runs_between c (a + 1) stop)
    else 1 ∷ runs_between c (a + 1) stop) e

-- ---- the end of the first run

-- all items from a start to the one before a place are the same
abbrev pub IsRunSoFar : Column → ℕ → ℕ → ℕ → Type 0
IsRunSoFar c start stop i =
    runs_between c start stop ≡ longer_by (i - 1 - start) (runs_between c (i - 1) stop)

pub run_longer : (c : Column) (start stop i : ℕ) → start < i → i < stop
    → int_eq (at c (i - 1)) (at c i) ≡ true → IsRunSoFar c start stop i
    → IsRunSoFar c start stop (i + 1)
run_longer c start stop i p q e h =
    let one : i - 1 + 1 ≡ i = omega (arith, p) in
    let k : i - 1 - start + 1 ≡ i + 1 - 1 - start = omega (arith, p) in
    let here : i ≡ i + 1 - 1 = omega arith in
    h ∙ ap (longer_by (i - 1 - start))
    (runs_same c (i - 1) stop (omega (arith, p, q))
    (ap (λ j. int_eq (at c (i - 1)) (at c j)) one ∙ e))
    ∙ longer_by-next (i - 1 - start) (runs_between c (i - 1 + 1) stop)
    ∙ ap₂ (λ m b. longer_by m (runs_between c b stop)) k (one ∙ here)

pub run_ends : (c : Column) (start stop i : ℕ) → start < i → i < stop
    → int_eq (at c (i - 1)) (at c i) ≡ false → IsRunSoFar c start stop i
    → runs_between c start stop ≡ (i - start) ∷ runs_between c i stop
run_ends c start stop i p q e h =
    let one : i - 1 + 1 ≡ i = omega (arith, p) in
    let k : i - 1 - start + 1 ≡ i - start = omega (arith, p) in
    h ∙ ap (longer_by (i - 1 - start))
    (runs_other c (i - 1) stop (omega (arith, p, q))
    (ap (λ j. int_eq (at c (i - 1)) (at c j)) one ∙ e))
    ∙ ap₂ (λ m b. m ∷ runs_between c b stop) k one

-- ---- how many runs there are

runs_few : (vs : List Value) → length (runs vs) ≤ length vs
runs_few [] = omega arith
runs_few (v ∷ []) = omega arith
runs_few (v ∷ w ∷ vs) = go (is_same v w) (runs (w ∷ vs)) (runs_few (w ∷ vs))
  where
    longer_few : (ns : List ℕ) → length (longer ns) ≡ length ns
    longer_few [] = refl
    longer_few (n ∷ ns) = refl

    go : (b : Bool) (ns : List ℕ) → length ns ≤ length (w ∷ vs)
        → length (if b then longer ns else 1 ∷ ns) ≤ length (v ∷ w ∷ vs)
    go true ns h = omega (arith, longer_few ns, h)
    go false ns h = omega (arith, h)

length_values : (c : Column) (a n : ℕ) → length (value_list (run (value_at c) a n)) ≡ n
length_values c a zero = refl
length_values c a (suc n) = ap suc (length_values c (suc a) n)

pub runs_between-few : (c : Column) (start stop : ℕ)
    → length (runs_between c start stop) ≤ stop - start
runs_between-few c start stop =
    omega (arith, runs_few (values_between c start stop), length_values c start (stop - start))

-- ---- runs that are put

pub runs_room : (zs old : List ℤ) (n room : ℕ) (rest all whole : List ℕ) → all ≡ n ∷ rest
    → zs ++ map (λ m. pos m) all ≡ old ++ map (λ m. pos m) whole
    → length old + length whole ≤ room → length zs < room
runs_room zs old n room rest all whole a h p =
    let l : length zs + length all ≡ length old + length whole =
    sym (length-append zs (map (λ m. pos m) all)
    ∙ ap (λ k. length zs + k) (length-map all (λ m. pos m)))
    ∙ ap length h
    ∙ length-append old (map (λ m. pos m) whole)
    ∙ ap (λ k. length old + k) (length-map whole (λ m. pos m)) in
    omega (arith, l, p, ap length a)

-- ---- numbers of one kind
