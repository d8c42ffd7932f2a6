-- Lists inside lists: how many items these have together.
use Rattle.std.specs.Prelude.{◌≡◌, ◌≢◌, ℕ, zero, suc, ◌+◌, ◌-◌, ◌<◌, ◌≤◌, refl, ◌++◌, [], ◌∷◌}
use Rattle.std.specs.Prelude.{List, map, sum, ℤ, pos, negsuc}
use Rattle.std.specs.List.{range_with_len}
use Rattle.std.proofs.Common.{arith, ap, sym, ◌∙◌, subst, ◌⊎◌, inl, inr}
use Rattle.std.proofs.lemmas.Bool.{cases_lt}
use Rattle.std.proofs.lemmas.Int.{ints}
use Rattle.std.proofs.lemmas.List.{map-append}
use Rattle.std.proofs.lemmas.List.Sums.{sum_by-append}
use Rattle.awk_base.proofs.Sums.{sum-one}
use Rattle.awk_base.proofs.Ranges.{range-more}
use Rattle.awk_lanes.specs.Column.{Column}
use Rattle.awk_lanes.specs.Counted.{before, offsets_by}
use Rattle.awk_lanes.specs.Numbers.{nat_of}
use Rattle.awk_lanes.specs.Places.{size_of, at, place_at, IsSpan, AreSpans}
use Rattle.awk_lanes.specs.declared.kind.Kind.TheVariants.{I64}
use Rattle.awk_lanes.proofs.CountedLanes.{before_mono, before-same, place-offsets}
use Rattle.awk_lanes.proofs.MadeLanes.{size-lane_of}
use Rattle.awk_counts.specs.Counted.{first_of, span_at, spans}
use Rattle.awk_counts.proofs.FirstPlaces.{first_of-more}
use Rattle.awk_list_ends.specs.Inside.{length_inside, total_inside}

-- ---- where the items of lists lie one after another

pub ascending : (m : ℕ → ℕ) (n : ℕ) (o : Column) → o ≡ offsets_by m n
    → (a : ℕ) → (b : ℕ) → a ≤ b → b < size_of o → place_at o a ≤ place_at o b
ascending m n o e = subst (λ c. (a : ℕ) → (b : ℕ) → a ≤ b → b < size_of c
    → place_at c a ≤ place_at c b) (sym e) (λ a b p q.
    let within : b ≤ n = omega (arith, q, size-lane_of I64 (n + 1) (λ j. pos (before m j))) in
    omega (
      arith,
      before_mono m a b p,
      place-offsets m n a (omega (arith, p, within)),
      place-offsets m n b within,
    ))

pub size_offsets : (m : ℕ → ℕ) (n : ℕ) (o : Column) → o ≡ offsets_by m n → size_of o ≡ n + 1
size_offsets m n o e = ap size_of e ∙ size-lane_of I64 (n + 1) (λ j. pos (before m j))

-- ---- the items of the lists that are the items of one list

-- a list without items ends where it begins
same_place : (n : ℕ) (a b : ℤ) → IsSpan n a b → nat_of b - nat_of a ≡ 0 → nat_of a ≡ nat_of b
same_place n (pos k) (pos l) h e = by_order (cases_lt l k)
  where
    by_order : (l < k) ⊎ (k ≤ l) → k ≡ l
    by_order (inl p) =
        let d : pos k ≢ pos l = λ q. let f : k ≡ l = ap nat_of q in omega (arith, f, p) in
        absurd (omega (arith, ints, (h d).1, p))
    by_order (inr p) = omega (arith, e, p)
same_place n (negsuc k) (pos l) h e =
    let d : negsuc k ≢ pos l = λ q. cc in
    absurd (omega (arith, ints, (h d).0))
same_place n (pos k) (negsuc l) h e =
    let d : pos k ≢ negsuc l = λ q. cc in
    absurd (omega (arith, ints, (h d).1))
same_place n (negsuc k) (negsuc l) h e = refl

abbrev pub items_between : Column → Column → Column → ℕ → ℕ
items_between o s t i = place_at o (place_at t i) - place_at o (place_at s i)

pub between_span : (o s t : Column) (n i start length : ℕ) → IsSpan n (at s i) (at t i)
    → length ≡ place_at t i - place_at s i → (0 < length → start ≡ place_at s i)
    → place_at o (start + length) - place_at o start ≡ items_between o s t i
between_span o s t n i start zero h e f =
    let same : place_at s i ≡ place_at t i = same_place n (at s i) (at t i) h (sym e) in
    let z : start + 0 ≡ start = omega arith in
    omega (arith, ap (place_at o) z, ap (place_at o) same)
between_span o s t n i start (suc k) h e f =
    let first : start ≡ place_at s i = f (omega arith) in
    let last : start + suc k ≡ place_at t i = omega (arith, first, e) in
    omega (arith, ap (place_at o) first, ap (place_at o) last)

-- what is the same within n places is the same from one end of a list to the other
by_ends : (f g : ℕ → ℕ) (n : ℕ) (a b : ℤ) → IsSpan n a b → ((k : ℕ) → k ≤ n → f k ≡ g k)
    → f (nat_of b) - f (nat_of a) ≡ g (nat_of b) - g (nat_of a)
by_ends f g n (pos k) (pos l) h e = by_order (cases_lt k l)
  where
    by_order : (k < l) ⊎ (l ≤ k) → f l - f k ≡ g l - g k
    by_order (inl p) =
        let d : pos k ≢ pos l = λ q. let f : k ≡ l = ap nat_of q in omega (arith, f, p) in
        let last : l ≤ n = omega (arith, ints, (h d).2) in
        omega (arith, e k (omega (arith, p, last)), e l last)
    by_order (inr p) =
        let same : k ≡ l = same_place n (pos k) (pos l) h (omega (arith, p)) in
        omega (arith, ap f same, ap g same)
by_ends f g n (negsuc k) (pos l) h e =
    let d : negsuc k ≢ pos l = λ q. cc in
    absurd (omega (arith, ints, (h d).0))
by_ends f g n (pos k) (negsuc l) h e =
    let d : pos k ≢ negsuc l = λ q. cc in
    absurd (omega (arith, ints, (h d).1))
by_ends f g n (negsuc k) (negsuc l) h e = omega arith

pub inside_by_offsets : (m : ℕ → ℕ) (n k : ℕ) (o s t : Column) → o ≡ offsets_by m n → k ≤ n
    → AreSpans s t k → before (items_between o s t) (size_of s) ≡ total_inside m s t
inside_by_offsets m n k o s t e p h =
    before-same (items_between o s t) (length_inside m s t) (size_of s) (λ i q.
    by_ends (place_at o) (before m) k (at s i) (at t i) (h.ordered i q) (λ j r.
    ap (λ (c : Column). place_at c j) e ∙ place-offsets m n j (omega (arith, p, r))))

-- ---- lists as often as they are reached

sum-append : (xs ys : List ℕ) → sum (xs ++ ys) ≡ sum xs + sum ys
sum-append xs ys = sum_by-append (λ x. x) xs ys

-- the items of lists one after another, from a first list on
run-sum : (m : ℕ → ℕ) (a k : ℕ) → before m a + sum (map m (range_with_len a k)) ≡ before m (a + k)
run-sum m a zero = omega (arith, ap (before m) (let e : a + 0 ≡ a = omega arith in e))
run-sum m a (suc k) =
    let more : sum (map m (range_with_len a (suc k))) ≡ sum (map m (range_with_len a k)) + m (a + k)
    = ap (λ ks. sum (map m ks)) (range-more a k)
    ∙ ap sum (map-append m (range_with_len a k) ((a + k) ∷ []))
    ∙ sum-append (map m (range_with_len a k)) (m (a + k) ∷ [])
    ∙ ap (λ j. sum (map m (range_with_len a k)) + j) (sum-one (m (a + k))) in
    let e : a + suc k ≡ suc (a + k) = omega arith in
    omega (arith, run-sum m a k, more, ap (before m) e)

list-sum : (m : ℕ → ℕ) (a b : ℕ) → sum (map m (range_with_len a (b - a))) ≡ before m b - before m a
list-sum m a b = by_order (cases_lt a b)
  where
    by_order : (a < b) ⊎ (b ≤ a)
        → sum (map m (range_with_len a (b - a))) ≡ before m b - before m a
    by_order (inl p) =
        let e : a + (b - a) ≡ b = omega (arith, p) in
        omega (arith, run-sum m a (b - a), ap (before m) e)
    by_order (inr p) =
        let e : b - a ≡ 0 = omega (arith, p) in
        let none : sum (map m (range_with_len a (b - a))) ≡ 0 =
        ap (λ k. sum (map m (range_with_len a k))) e in
        omega (arith, none, before_mono m b a p)

lists-sum : (m : ℕ → ℕ) (s t : Column) (i : ℕ)
    → before (length_inside m s t) i ≡ sum (map m (first_of (span_at s t) i))
lists-sum m s t zero = refl
lists-sum m s t (suc i) =
    let e : i + 1 ≡ suc i = omega arith in
    let more : sum (map m (first_of (span_at s t) (i + 1)))
    ≡ sum (map m (first_of (span_at s t) i)) + sum (map m (span_at s t i)) =
    ap (λ ks. sum (map m ks)) (first_of-more (span_at s t) i)
    ∙ ap sum (map-append m (first_of (span_at s t) i) (span_at s t i))
    ∙ sum-append (map m (first_of (span_at s t) i)) (map m (span_at s t i)) in
    subst (λ k. before (length_inside m s t) (suc i) ≡ sum (map m (first_of (span_at s t) k))) e
    (omega (arith, lists-sum m s t i, more, list-sum m (place_at s i) (place_at t i)))

-- each list that is reached counts with its length
pub inside-spans : (m : ℕ → ℕ) (s t : Column) → total_inside m s t ≡ sum (map m (spans s t))
inside-spans m s t = lists-sum m s t (size_of s)
