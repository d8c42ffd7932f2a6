-- The places in a slot of tuples of one place of each of several lists, as runs of equal places.
use Rattle.std.specs.Prelude.{◌≡◌, ◌==◌, refl, ℕ, zero, suc, ◌+◌, ◌-◌, ◌*◌, ◌/◌, ◌<◌, ◌≤◌}
use Rattle.std.specs.Prelude.{Bool, true, false, if◌then◌else◌, replicate}
use Rattle.std.specs.Prelude.{List, [], ◌∷◌, ◌++◌, length, map, get_or, drop}
use Rattle.std.specs.List.{range_with_len, flat_map}
use Rattle.std.proofs.Common.{arith, ap, ap₂, sym, ◌∙◌, append_assoc}
use Rattle.std.proofs.Math.Nat.{mul_assoc, mul-div_cancel}
use Rattle.std.proofs.lemmas.Grind.{flat_map-append}
use Rattle.std.proofs.lemmas.List.{map-id, append-nil}
use Rattle.std.proofs.lemmas.List.Concat.{flat_map_single}
use Rattle.std.proofs.lemmas.Simd.{map-map}
use Rattle.awk_base.proofs.Ranges.{range-more}
use Rattle.awk_places.specs.Places.{before_each, place_lists, place_count}
use Rattle.awk_places.specs.Products.{each_times, times, share}
use Rattle.awk_places.proofs.BegunLaws.{map-always}
use Rattle.awk_places.proofs.FlatLaws.{map-flat, flat-same}
use Rattle.awk_places.proofs.Levels.{length-place_lists}
use Rattle.awk_places.proofs.PlaceLists.{some_right, drop-count}

-- ---- what is made so far

module _ {X : Type 0} (f : ℕ → List X) where
  flat-more : (a n : ℕ)
      → flat_map f (range_with_len a (suc n)) ≡ flat_map f (range_with_len a n) ++ f (a + n)
  flat-more a n =
      ap (flat_map f) (range-more a n)
      ∙ flat_map-append f (range_with_len a n) ((a + n) ∷ [])
      ∙ ap (λ ys. flat_map f (range_with_len a n) ++ ys) (append-nil (f (a + n)))

  -- one more behind what is made of the places from one on
  pub flat_put : (a k : ℕ) (xs ys zs : List X) → a ≤ k
      → ys ≡ xs ++ flat_map f (range_with_len a (k - a)) → zs ≡ ys ++ f k
      → zs ≡ xs ++ flat_map f (range_with_len a (k + 1 - a))
  flat_put a k xs ys zs o e p =
      let m : suc (k - a) ≡ k + 1 - a = omega (arith, o) in
      let b : k ≡ a + (k - a) = omega (arith, o) in
      p ∙ ap₂ (λ us j. us ++ f j) e b
      ∙ append_assoc xs (flat_map f (range_with_len a (k - a))) (f (a + (k - a)))
      ∙ ap (λ us. xs ++ us) (sym (flat-more a (k - a)))
      ∙ ap (λ n. xs ++ flat_map f (range_with_len a n)) m

-- one more behind what is made of the first places
pub rows_put : {X : Type 0} (f : ℕ → List X) (k : ℕ) (ys zs : List X)
    → ys ≡ flat_map f (range_with_len 0 k) → zs ≡ ys ++ f k
    → zs ≡ flat_map f (range_with_len 0 (k + 1))
rows_put f k ys zs e p =
    let m : suc k ≡ k + 1 = omega arith in
    let b : k ≡ 0 + k = omega arith in
    p ∙ ap₂ (λ us j. us ++ f j) e b ∙ sym (flat-more f 0 k)
    ∙ ap (λ n. flat_map f (range_with_len 0 n)) m

times-more : (n : ℕ) (xs : List ℕ) → times (suc n) xs ≡ times n xs ++ xs
times-more zero xs = append-nil xs
times-more (suc n) xs =
    ap (λ ys. xs ++ ys) (times-more n xs) ∙ sym (append_assoc xs (times n xs) xs)

-- once more
pub times_put : (n : ℕ) (xs us ys zs : List ℕ) → ys ≡ us ++ times n xs → zs ≡ ys ++ xs
    → zs ≡ us ++ times (n + 1) xs
times_put n xs us ys zs e p =
    let m : suc n ≡ n + 1 = omega arith in
    p ∙ ap (λ ws. ws ++ xs) e ∙ append_assoc us (times n xs) xs
    ∙ ap (λ ws. us ++ ws) (sym (times-more n xs)) ∙ ap (λ k. us ++ times k xs) m

-- ---- the slots before and after one

abbrev pub count_before : List ℕ → ℕ → ℕ
count_before [] j = 1
count_before (m ∷ ms) zero = 1
count_before (m ∷ ms) (suc j) = m * count_before ms j

abbrev pub count_after : List ℕ → ℕ → ℕ
count_after ms j = place_count (drop (suc j) ms)

count-cut : (ms : List ℕ) (j : ℕ) → j < length ms
    → place_count ms ≡ count_before ms j * place_count (drop j ms)
count-cut [] j l = absurd (omega (arith, l))
count-cut (m ∷ ms) zero l = omega arith
count-cut (m ∷ ms) (suc j) l =
    ap (λ k. m * k) (count-cut ms j (omega (arith, l)))
    ∙ sym (mul_assoc m (count_before ms j) (place_count (drop j ms)))

times-append : (m n : ℕ) (xs : List ℕ) → times (m + n) xs ≡ times m xs ++ times n xs
times-append zero n xs = let e : 0 + n ≡ n = omega arith in ap (λ k. times k xs) e
times-append (suc m) n xs =
    let e : suc m + n ≡ suc (m + n) = omega arith in
    ap (λ k. times k xs) e
    ∙ ap (λ ys. xs ++ ys) (times-append m n xs) ∙ sym (append_assoc xs (times m xs) (times n xs))

-- the same list for each place
flat-always : (a m b : ℕ) (xs : List ℕ)
    → flat_map (λ (k : ℕ). times b xs) (range_with_len a m) ≡ times (m * b) xs
flat-always a zero b xs = let e : 0 ≡ 0 * b = omega arith in ap (λ k. times k xs) e
flat-always a (suc m) b xs =
    let e : b + m * b ≡ suc m * b = grind arith in
    ap (λ ys. times b xs ++ ys) (flat-always (a + 1) m b xs)
    ∙ sym (times-append b (m * b) xs) ∙ ap (λ k. times k xs) e

-- each first place as often as there are tuples of the others
first_runs : (c a m : ℕ) (ms : List ℕ)
    → flat_map (λ k. map (λ ks. c + get_or ks 0 0) (before_each k (place_lists ms)))
    (range_with_len a m)
    ≡ each_times (place_count ms) (c + a) m
first_runs c a zero ms = refl
first_runs c a (suc m) ms =
    let e : c + (a + 1) ≡ c + a + 1 = omega arith in
    ap₂ (λ xs ys. xs ++ ys)
    (map-map (λ ks. c + get_or ks 0 0) (λ (ks : List ℕ). a ∷ ks) (place_lists ms)
    ∙ map-always (c + a) (place_lists ms)
    ∙ ap (λ n. replicate n (c + a)) (length-place_lists ms))
    (first_runs c (a + 1) m ms ∙ ap (λ b. each_times (place_count ms) b m) e)

-- the places in slot j of all tuples, from a first place on
pub slot-runs : (ms : List ℕ) (j c : ℕ) → j < length ms
    → map (λ ks. c + get_or ks j 0) (place_lists ms)
    ≡ times (count_before ms j) (each_times (count_after ms j) c (get_or ms j 0))
slot-runs [] j c l = absurd (omega (arith, l))
slot-runs (m ∷ ms) zero c l =
    let e : c + 0 ≡ c = omega arith in
    map-flat (λ ks. c + get_or ks 0 0) (λ k. before_each k (place_lists ms)) (range_with_len 0 m)
    ∙ first_runs c 0 m ms ∙ ap (λ b. each_times (place_count ms) b m) e
    ∙ sym (append-nil (each_times (place_count ms) c m))
slot-runs (m ∷ ms) (suc j) c l =
    map-flat (λ ks. c + get_or ks (suc j) 0) (λ k. before_each k (place_lists ms))
    (range_with_len 0 m)
    ∙ flat-same (λ k. map (λ ks. c + get_or ks (suc j) 0) (before_each k (place_lists ms)))
    (λ k. times (count_before ms j) (each_times (count_after ms j) c (get_or ms j 0)))
    (λ k. map-map (λ ks. c + get_or ks (suc j) 0) (λ (ks : List ℕ). k ∷ ks) (place_lists ms)
    ∙ slot-runs ms j c (omega (arith, l))) (range_with_len 0 m)
    ∙ flat-always 0 m (count_before ms j)
    (each_times (count_after ms j) c (get_or ms j 0))

-- ---- places that are put once

each_once : (a n : ℕ) → each_times 1 a n ≡ range_with_len a n
each_once a n =
    flat_map_single (λ k. k) (range_with_len a n) ∙ map-id (range_with_len a n)

pub span_once : (m a n : ℕ) → m ≡ 1 → range_with_len a n ≡ each_times m a n
span_once m a n e = sym (each_once a n) ∙ ap (λ k. each_times k a n) (sym e)

-- ---- nothing is put

times_none : (n : ℕ) → times n [] ≡ []
times_none zero = refl
times_none (suc n) = times_none n

never : (a n : ℕ) → each_times 0 a n ≡ []
never a zero = refl
never a (suc n) = never (a + 1) n

pub runs_never : (b m a n : ℕ) → m ≡ 0 → times b (each_times m a n) ≡ []
runs_never b m a n e = ap (times b) (ap (λ m. each_times m a n) e ∙ never a n) ∙ times_none b

pub runs_nowhere : (b m a n : ℕ) → n ≡ 0 → times b (each_times m a n) ≡ []
runs_nowhere b m a n e = ap (λ n. times b (each_times m a n)) e ∙ times_none b

-- ---- by shares of what is left

share-by : (c p q : ℕ) → 0 < p → c ≡ q * p → share c p ≡ q
share-by c p q o e =
    let b : (p == 0) ≡ false = grind (arith, o) in
    ap (λ b. if b then 0 else c / p) b ∙ ap (λ k. k / p) e ∙ mul-div_cancel q o

share-none : (p : ℕ) → share 0 p ≡ 0
share-none p = go (p == 0) refl
  where
    go : (b : Bool) → (p == 0) ≡ b → share 0 p ≡ 0
    go true e = ap (λ b. if b then 0 else 0 / p) e
    go false e =
        let o : 0 < p = grind (arith, e) in
        let z : 0 ≡ 0 * p = omega arith in
        share-by 0 p 0 o z

-- how many tuples the slots from j on have, or none where there are no tuples at all
pub record IsRest (ms : List ℕ) (j r : ℕ) : Type 0 where
  pub none : place_count ms ≡ 0 → r ≡ 0
  pub some : 0 < place_count ms → r ≡ place_count (drop j ms)

pub rest_first : (ms : List ℕ) (r : ℕ) → r ≡ place_count ms → IsRest ms 0 r
rest_first ms r e = record { none = λ z. e ∙ z; some = λ o. e }

rest_some : (ms : List ℕ) (j : ℕ) → j < length ms → 0 < place_count ms
    → 0 < place_count (drop j ms)
rest_some ms j l o =
    some_right (count_before ms j) (place_count (drop j ms)) 0 (omega (arith, o, count-cut ms j l))

length_some : (ms : List ℕ) (j : ℕ) → j < length ms → 0 < place_count ms → 0 < get_or ms j 0
length_some ms j l o = go (get_or ms j 0) refl
  where
    go : (m : ℕ) → get_or ms j 0 ≡ m → 0 < m
    go zero e =
        let z : 0 * count_after ms j ≡ 0 = omega arith in
        absurd (omega (
          arith,
          rest_some ms j l o,
          drop-count ms j l ∙ ap (λ m. m * count_after ms j) e ∙ z,
        ))
    go (suc m) e = omega arith

after-share : (ms : List ℕ) (j r : ℕ) → j < length ms → 0 < place_count ms → IsRest ms j r
    → share r (get_or ms j 0) ≡ count_after ms j
after-share ms j r l o h =
    let m : ℕ = get_or ms j 0 in
    let a : ℕ = count_after ms j in
    let e : m * a ≡ a * m = grind arith in
    share-by r m a (length_some ms j l o) (h.some o ∙ drop-count ms j l ∙ e)

before-share : (ms : List ℕ) (j r : ℕ) → j < length ms → 0 < place_count ms → IsRest ms j r
    → share (place_count ms) r ≡ count_before ms j
before-share ms j r l o h =
    ap (share (place_count ms)) (h.some o)
    ∙ share-by (place_count ms) (place_count (drop j ms)) (count_before ms j)
    (rest_some ms j l o) (count-cut ms j l)

pub rest_next : (ms : List ℕ) (j r : ℕ) → j < length ms → IsRest ms j r
    → IsRest ms (j + 1) (share r (get_or ms j 0))
rest_next ms j r l h = record {
  none = λ z. ap (λ k. share k (get_or ms j 0)) (h.none z) ∙ share-none (get_or ms j 0);
  some = λ o.
      let e : suc j ≡ j + 1 = omega arith in
      after-share ms j r l o h ∙ ap (λ k. place_count (drop k ms)) e;
}

pub none_there : (ms : List ℕ) → place_count ms ≡ 0 → place_lists ms ≡ []
none_there ms e = go (place_lists ms) (length-place_lists ms ∙ e)
  where
    go : (kss : List (List ℕ)) → length kss ≡ 0 → kss ≡ []
    go [] e = refl
    go (ks ∷ kss) e = absurd (omega (arith, e))

-- the places in slot j by what the slots from it on have
pub runs-by_rest : (ms : List ℕ) (j r c : ℕ) → j < length ms → IsRest ms j r
    → times (share (place_count ms) r)
    (each_times (share r (get_or ms j 0)) c (get_or ms j 0))
    ≡ map (λ ks. c + get_or ks j 0) (place_lists ms)
runs-by_rest ms j r c l h = go (place_count ms) refl
  where
    go : (n : ℕ) → place_count ms ≡ n
        → times (share (place_count ms) r) (each_times (share r (get_or ms j 0)) c (get_or ms j 0))
        ≡ map (λ ks. c + get_or ks j 0) (place_lists ms)
    go zero e =
        ap (λ b. times b (each_times (share r (get_or ms j 0)) c (get_or ms j 0)))
        (ap (λ n. share n r) e ∙ share-none r)
        ∙ sym (ap (map (λ ks. c + get_or ks j 0)) (none_there ms e))
    go (suc n) e =
        let o : 0 < place_count ms = omega (arith, e) in
        ap₂ (λ b a. times b (each_times a c (get_or ms j 0))) (before-share ms j r l o h)
        (after-share ms j r l o h)
        ∙ sym (slot-runs ms j c l)
