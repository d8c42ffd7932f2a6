-- A range of a range, each by a step, as one range by the product of both.
use Rattle.std.specs.Prelude.{◌≡◌, ◌≢◌, ℕ, zero, suc, ◌+◌, ◌-◌, ◌*◌, ◌/◌, ◌<◌, ◌≤◌, min, ℤ, pos}
use Rattle.std.specs.Prelude.{negsuc, neg_ℤ, ◌*ℤ◌, Bool, true, false, not, List, [], ◌∷◌, length}
use Rattle.std.specs.Prelude.{map, get_or, Option, Some, None, Result, Ok, refl}
use Rattle.std.specs.List.{AllByRecursion, range_with_len}
use Rattle.std.proofs.Common.{arith, ap, ap₂, sym, ◌∙◌, subst}
use Rattle.std.proofs.Math.Nat.{div-eq_of_lt, mul-div_cancel, mul-pos}
use Rattle.std.proofs.lemmas.List.FromFn.{get_or-map-range_with_len, length-map-range_with_len}
use Rattle.std.proofs.lemmas.List.{length-map}
use Rattle.std.proofs.lemmas.Simd.{map-map}
use Rattle.awk_base.proofs.Ranges.{map-in}
use Rattle.awk_types.specs.DataType.{DataType}
use Rattle.awk_types.specs.Datum.{Datum, arr}
use Rattle.awk_types.specs.Value.{Value, null}
use Rattle.awk_types.specs.declared.fault.Fault.{Fault}
use Rattle.awk_select.specs.Picks.{items_at, step_range_of}
use Rattle.awk_select.specs.Places.{bound_down, bound_up, multiples_below, places_down, places_up}
use Rattle.awk_select.specs.Places.{range_places}
use Rattle.awk_select.proofs.RangePlaces.{multiple-below, bound_up-below, bound_down-below}

-- ---- places that go up or down by a step

abbrev run : Bool → ℕ → ℕ → ℕ → ℕ
run true a s j = a + j * s
run false a s j = a - j * s

abbrev run_places : Bool → ℕ → ℕ → ℕ → List ℕ
run_places up a s c = map (λ j. run up a s j) (range_with_len 0 c)

record IsRun (n : ℕ) (ks : List ℕ) (up : Bool) (s : ℕ) : Type 0 where
  first : ℕ
  count : ℕ
  places : ks ≡ run_places up first s count
  falls : (j : ℕ) → j < count → up ≡ false → j * s ≤ first
  below : (j : ℕ) → j < count → run up first s j < n

abbrev step_of : Bool → ℕ → ℤ
step_of true s = pos s
step_of false s = negsuc (s - 1)

-- a range is one
record IsStep (n : ℕ) (ks : List ℕ) (step : ℤ) : Type 0 where
  up : Bool
  size : ℕ
  some : 0 < size
  is : step ≡ step_of up size
  run_is : IsRun n ks up size

range_up : (n : ℕ) (lo hi : Option ℤ) (s : ℕ) → 0 < s
    → IsRun n (range_places n lo hi (pos s)) true s
range_up n lo hi s p =
    let a = bound_up n 0 lo in
    let b = bound_up n n hi in
    let top : b ≤ n = bound_up-below n n hi (omega arith) in
    record {
      first = a;
      count = multiples_below (b - a) s;
      places = refl;
      falls = λ j l e. cc;
      below = λ j l.
          let m : j * s < b - a = multiple-below (b - a) s j p l in omega (arith, m, top);
    }

range_down : (n : ℕ) (lo hi : Option ℤ) (k : ℕ)
    → IsRun n (range_places n lo hi (negsuc k)) false (suc k)
range_down n lo hi k =
    let a = bound_down n n lo in
    let b = bound_down n 0 hi in
    let c = multiples_below (a - b) (suc k) in
    let top : a ≤ n = bound_down-below n n lo (omega arith) in
    let within = λ (j : ℕ) (l : j < c). multiple-below (a - b) (suc k) j (omega arith) l in
    record {
      first = a - 1;
      count = c;
      places = map-in (λ j. a - suc (j * suc k)) (λ j. a - 1 - j * suc k) 0 c
          (λ j l. omega arith);
      falls = λ j l e. omega (arith, within j l);
      below = λ j l. omega (arith, within j l, top);
    }

is_step : (n : ℕ) (lo hi : Option ℤ) (step : ℤ) → step ≢ pos 0
    → IsStep n (range_places n lo hi step) step
is_step n lo hi (pos zero) h = absurd (h refl)
is_step n lo hi (pos (suc s)) h = record {
  up = true;
  size = suc s;
  some = omega arith;
  is = refl;
  run_is = range_up n lo hi (suc s) (omega arith);
}
is_step n lo hi (negsuc k) h =
    let e : suc k - 1 ≡ k = omega arith in
    record {
      up = false;
      size = suc k;
      some = omega arith;
      is = ap negsuc (sym e);
      run_is = range_down n lo hi k;
    }

-- ---- one after another

abbrev both_up : Bool → Bool → Bool
both_up true u = u
both_up false u = not u

spread : (x j s u : ℕ) → (x + j * u) * s ≡ x * s + j * (s * u)
spread x j s u = grind arith

run_twice : (up last : Bool) (a s b u j : ℕ) → (up ≡ false → b * s ≤ a)
    → (last ≡ false → j * u ≤ b)
    → run up a s (run last b u j) ≡ run (both_up up last) (run up a s b) (s * u) j
run_twice true true a s b u j p q = omega (arith, spread b j s u)
run_twice false true a s b u j p q = omega (arith, spread b j s u)
run_twice true false a s b u j p q =
    let d : b - j * u + j * u ≡ b = omega (arith, q refl) in
    omega (arith, spread (b - j * u) j s u, ap (λ m. m * s) d)
run_twice false false a s b u j p q =
    let d : b - j * u + j * u ≡ b = omega (arith, q refl) in
    omega (arith, spread (b - j * u) j s u, ap (λ m. m * s) d, p refl)

run_start : (up : Bool) (a s : ℕ) → run up a s 0 ≡ a
run_start true a s = omega arith
run_start false a s = omega arith

module _ (n : ℕ) (ps ks : List ℕ) (up last : Bool) (s u : ℕ) (p : IsRun n ps up s)
    (k : IsRun (length ps) ks last u) where
  long : length ps ≡ p.count
  long =
      ap length p.places
      ∙ length-map-range_with_len (λ j. run up p.first s j) 0 p.count

  inside : (j : ℕ) → j < k.count → run last k.first u j < p.count
  inside j l = omega (arith, k.below j l, long)

  start : (j : ℕ) → j < k.count → k.first < p.count
  start j l =
      let z : 0 < k.count = omega (arith, l) in
      omega (arith, inside 0 z, run_start last k.first u)

  twice : (j : ℕ) → j < k.count → run up p.first s (run last k.first u j)
      ≡ run (both_up up last) (run up p.first s k.first) (s * u) j
  twice j l =
      run_twice up last p.first s k.first u j (λ e. p.falls k.first (start j l) e)
      (λ e. k.falls j l e)

  place_of : (i : ℕ) → i < p.count → get_or ps i 0 ≡ run up p.first s i
  place_of i l =
      ap (λ xs. get_or xs i 0) p.places
      ∙ get_or-map-range_with_len (λ j. run up p.first s j) 0 p.count i i 0 l (omega arith)

  falls_both : (up last : Bool) (a b j : ℕ) → (up ≡ false → run last b u j * s ≤ a)
      → (last ≡ false → j * u ≤ b) → both_up up last ≡ false
      → j * (s * u) ≤ run up a s b
  falls_both true true a b j p q e = cc
  falls_both true false a b j p q e =
      let d : b - j * u + j * u ≡ b = omega (arith, q refl) in
      omega (arith, spread (b - j * u) j s u, ap (λ m. m * s) d)
  falls_both false true a b j p q e = omega (arith, spread b j s u, p refl)
  falls_both false false a b j p q e = cc

  run_of_run : IsRun n (map (λ i. get_or ps i 0) ks) (both_up up last) (s * u)
  run_of_run = record {
    first = run up p.first s k.first;
    count = k.count;
    places = ap (map (λ i. get_or ps i 0)) k.places
        ∙ map-map (λ i. get_or ps i 0) (λ j. run last k.first u j) (range_with_len 0 k.count)
        ∙ map-in (λ j. get_or ps (run last k.first u j) 0)
        (λ j. run (both_up up last) (run up p.first s k.first) (s * u) j) 0 k.count
        (λ j l. let m : j < k.count = omega (arith, l) in
        place_of (run last k.first u j) (inside j m) ∙ twice j m);
    falls = λ j l e. falls_both up last p.first k.first j
        (λ f. p.falls (run last k.first u j) (inside j l) f) (λ f. k.falls j l f) e;
    below = λ j l.
        subst (λ m. m < n) (twice j l) (p.below (run last k.first u j) (inside j l));
  }

-- ---- such places are those of a range

one_more : (c s : ℕ) → suc c * s ≡ s + c * s
one_more c s = grind arith

multiples_one : (c s : ℕ) → 0 < s → multiples_below (c * s + 1) s ≡ suc c
multiples_one c s p =
    let e : c * s + 1 + (s - 1) ≡ suc c * s = omega (arith, one_more c s, p) in
    ap (λ m. m / s) e ∙ mul-div_cancel (suc c) p

multiples_none : (s : ℕ) → 0 < s → multiples_below 0 s ≡ 0
multiples_none s p = div-eq_of_lt (omega (arith, p))

record IsRange (n : ℕ) (ks : List ℕ) (step : ℤ) : Type 0 where
  low : Option ℤ
  high : Option ℤ
  is : range_places n low high step ≡ ks

abbrev end_down : ℕ → Option ℤ
end_down zero = None
end_down (suc k) = Some (pos k)

bound_end : (n h : ℕ) → h ≤ n → bound_down n 0 (end_down h) ≡ h
bound_end n zero l = refl
bound_end n (suc k) l = omega (arith, l)

range_going_up : (n a s c : ℕ) → 0 < s → a + c * s < n
    → range_places n (Some (pos a)) (Some (pos (a + c * s + 1))) (pos s)
    ≡ run_places true a s (suc c)
range_going_up n a s c p l =
    let e : min a n ≡ a = omega (arith, l) in
    let f : min (a + c * s + 1) n ≡ a + c * s + 1 = omega (arith, l) in
    let d : a + c * s + 1 - a ≡ c * s + 1 = omega arith in
    ap₂ (λ x y. places_up x y s) e f
    ∙ ap (λ x. map (λ j. a + j * s) (range_with_len 0 x))
    (ap (λ x. multiples_below x s) d ∙ multiples_one c s p)

range_going_down : (n a s c : ℕ) → 0 < s → a < n → c * s ≤ a
    → range_places n (Some (pos a)) (end_down (a - c * s)) (negsuc (s - 1))
    ≡ run_places false a s (suc c)
range_going_down n a s c p l m =
    let e : min (suc a) n ≡ suc a = omega (arith, l) in
    let f = bound_end n (a - c * s) (omega (arith, l)) in
    let g : suc (s - 1) ≡ s = omega (arith, p) in
    let d : suc a - (a - c * s) ≡ c * s + 1 = omega (arith, m) in
    ap₂ (λ x y. places_down x y (suc (s - 1))) e f
    ∙ ap (places_down (suc a) (a - c * s)) g
    ∙ ap (λ x. map (λ j. suc a - suc (j * s)) (range_with_len 0 x))
    (ap (λ x. multiples_below x s) d ∙ multiples_one c s p)
    ∙ map-in (λ j. suc a - suc (j * s)) (λ j. a - j * s) 0 (suc c) (λ j i. omega arith)

no_places : (n s : ℕ) (up : Bool) → 0 < s
    → range_places n (Some (pos 0)) (Some (pos 0)) (step_of up s) ≡ []
no_places n s true p =
    let d : min 0 n - min 0 n ≡ 0 = omega arith in
    ap (λ x. map (λ j. min 0 n + j * s) (range_with_len 0 x))
    (ap (λ x. multiples_below x s) d ∙ multiples_none s p)
no_places n s false p =
    let d : min 1 n - min 1 n ≡ 0 = omega arith in
    let q : 0 < suc (s - 1) = omega arith in
    ap (λ x. map (λ j. min 1 n - suc (j * suc (s - 1))) (range_with_len 0 x))
    (ap (λ x. multiples_below x (suc (s - 1))) d ∙ multiples_none (suc (s - 1)) q)

as_range : (n : ℕ) (ks : List ℕ) (up : Bool) (s : ℕ) → 0 < s → IsRun n ks up s
    → IsRange n ks (step_of up s)
as_range n ks up s p r = by up r.count refl r.places r.falls r.below
  where
    by : (up : Bool) (c : ℕ) → r.count ≡ c → ks ≡ run_places up r.first s r.count
        → ((j : ℕ) → j < r.count → up ≡ false → j * s ≤ r.first)
        → ((j : ℕ) → j < r.count → run up r.first s j < n) → IsRange n ks (step_of up s)
    by up zero e is f b = record {
      low = Some (pos 0);
      high = Some (pos 0);
      is = no_places n s up p ∙ sym (is ∙ ap (run_places up r.first s) e);
    }
    by true (suc c) e is f b =
        let l : c < r.count = omega (arith, e) in
        record {
          low = Some (pos r.first);
          high = Some (pos (r.first + c * s + 1));
          is = range_going_up n r.first s c p (b c l)
              ∙ sym (is ∙ ap (run_places true r.first s) e);
        }
    by false (suc c) e is f b =
        let l : c < r.count = omega (arith, e) in
        let z : 0 < r.count = omega (arith, e) in
        let q : r.first < n = omega (arith, b 0 z) in
        record {
          low = Some (pos r.first);
          high = end_down (r.first - c * s);
          is = range_going_down n r.first s c p q (f c l refl)
              ∙ sym (is ∙ ap (run_places false r.first s) e);
        }

-- ---- items

mapped_item : (g : ℕ → Value) (ps : List ℕ) (i : ℕ) → i < length ps
    → get_or (map g ps) i null ≡ g (get_or ps i 0)
mapped_item g [] i l = absurd (omega (arith, l))
mapped_item g (p ∷ ps) zero l = refl
mapped_item g (p ∷ ps) (suc i) l = mapped_item g ps i (omega (arith, l))

items_twice : (vs : List Value) (ps ks : List ℕ) → AllByRecursion (λ k. k < length ps) ks
    → items_at (items_at vs ps) ks ≡ items_at vs (map (λ i. get_or ps i 0) ks)
items_twice vs ps [] h = refl
items_twice vs ps (k ∷ ks) h =
    ap₂ (λ x xs. x ∷ xs) (mapped_item (λ k. get_or vs k null) ps k h.0)
    (items_twice vs ps ks h.1)

all_range : (P : ℕ → Type 0) (f : ℕ → ℕ) (a m : ℕ) → ((j : ℕ) → j < a + m → P (f j))
    → AllByRecursion P (map f (range_with_len a m))
all_range P f a zero h = tt
all_range P f a (suc m) h =
    (h a (omega arith), all_range P f (a + 1) m (λ j l. h j (omega (arith, l))))

all_below : (n : ℕ) (ks : List ℕ) (up : Bool) (s : ℕ) → IsRun n ks up s
    → AllByRecursion (λ k. k < n) ks
all_below n ks up s r =
    subst (AllByRecursion (λ k. k < n)) (sym r.places)
    (all_range (λ k. k < n) (λ j. run up r.first s j) 0 r.count
    (λ j l. r.below j (omega (arith, l))))

-- ---- steps

negative : (m : ℕ) → 0 < m → neg_ℤ (pos m) ≡ negsuc (m - 1)
negative zero p = absurd (omega (arith, p))
negative (suc m) p = let e : m ≡ suc m - 1 = omega arith in ap negsuc e

step_product : (up last : Bool) (s u : ℕ) → 0 < s → 0 < u
    → step_of up s *ℤ step_of last u ≡ step_of (both_up up last) (s * u)
step_product true true s u p q = refl
step_product true false s u p q =
    let e : suc (u - 1) ≡ u = omega (arith, q) in
    ap (λ m. neg_ℤ (pos (s * m))) e ∙ negative (s * u) (mul-pos p q)
step_product false true s u p q =
    let e : suc (s - 1) ≡ s = omega (arith, p) in
    ap (λ m. neg_ℤ (pos (m * u))) e ∙ negative (s * u) (mul-pos p q)
step_product false false s u p q =
    let e : suc (s - 1) ≡ s = omega (arith, p) in
    let f : suc (u - 1) ≡ u = omega (arith, q) in
    ap₂ (λ m k. pos (m * k)) e f

-- ---- the law

range_composed : (n : ℕ) (ps ks : List ℕ) (step second : ℤ) → IsStep n ps step
    → IsStep (length ps) ks second
    → IsRange n (map (λ i. get_or ps i 0) ks) (step *ℤ second)
range_composed n ps ks step second p q =
    let up = both_up p.up q.up in
    let size = p.size * q.size in
    let r = as_range n (map (λ i. get_or ps i 0) ks) up size (mul-pos p.some q.some)
    (run_of_run n ps ks p.up q.up p.size q.size p.run_is q.run_is) in
    let steps : step *ℤ second ≡ step_of up size =
    ap₂ (λ x y. x *ℤ y) p.is q.is ∙ step_product p.up q.up p.size q.size p.some q.some in
    record {
      low = r.low;
      high = r.high;
      is = ap (range_places n r.low r.high) steps ∙ r.is;
    }

abbrev IsOneRange : DataType → List Value → List Value → Option ℤ → Option ℤ → ℤ → ℤ → Type 0
IsOneRange t vs ws first last second step =
    (a : Option ℤ) × (b : Option ℤ)
    × (step_range_of first last second (arr t ws) ≡ step_range_of a b step (arr t vs))

by_range : (t : DataType) (vs : List Value) (ps ks : List ℕ) (step : ℤ)
    → AllByRecursion (λ k. k < length ps) ks
    → IsRange (length vs) (map (λ i. get_or ps i 0) ks) step
    → (a : Option ℤ) × (b : Option ℤ)
    × (items_at (items_at vs ps) ks ≡ items_at vs (range_places (length vs) a b step))
by_range t vs ps ks step h r =
    (r.low, r.high, items_twice vs ps ks h ∙ ap (items_at vs) (sym r.is))

range_of_items : (t : DataType) (vs : List Value) (ps : List ℕ) (first last : Option ℤ)
    (step second : ℤ) → IsStep (length vs) ps step → second ≢ pos 0
    → IsOneRange t vs (items_at vs ps) first last second (step *ℤ second)
range_of_items t vs ps first last step second p k =
    let ks = range_places (length ps) first last second in
    let q = is_step (length ps) first last second k in
    let r = by_range t vs ps ks (step *ℤ second)
    (all_below (length ps) ks q.up q.size q.run_is)
    (range_composed (length vs) ps ks step second p q) in (
      r.0,
      r.1,
      ap (λ m. Ok (arr t (items_at (items_at vs ps) (range_places m first last second))))
          (length-map ps (λ k. get_or vs k null))
          ∙ ap (λ xs. Ok (arr t xs)) r.2,
    )

pub range_by_steps : (t : DataType) (vs ws : List Value) (lo hi first last : Option ℤ)
    (step second : ℤ) → step ≢ pos 0 → second ≢ pos 0
    → step_range_of lo hi step (arr t vs) ≡ Ok (arr t ws)
    → (a : Option ℤ) × (b : Option ℤ) × (step_range_of first last second (arr t ws)
    ≡ step_range_of a b (step *ℤ second) (arr t vs))
range_by_steps t vs ws lo hi first last step second h k e =
    let ps = range_places (length vs) lo hi step in
    subst (λ xs. IsOneRange t vs xs first last second (step *ℤ second))
    (same_items t (items_at vs ps) ws e)
    (range_of_items t vs ps first last step second (is_step (length vs) lo hi step h) k)
  where
    same_items : (t : DataType) (us vs : List Value)
        → ◌≡◌ {A = Result Datum Fault} (Ok (arr t us)) (Ok (arr t vs)) → us ≡ vs
    same_items t us vs e = cc
