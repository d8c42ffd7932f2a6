-- Each number is counted once: below the first edge, in one interval, or from the last edge on.
use Rattle.std.proofs.Common.{◌≡◌, ℕ, zero, suc, ◌+◌, ◌<◌, ◌≤◌, List, [], ◌∷◌, ◌++◌, length}
use Rattle.std.proofs.Common.{map-id, refl, ap, ap₂, sym, ◌∙◌, arith}
use Rattle.std.specs.Prelude.{ℤ, true, cond, nat_lt, nat_le, ◌==◌, int_le}
use Rattle.std.specs.List.{sum, sum_by, range_with_len}
use Rattle.std.proofs.lemmas.Bool.{and_parts, leb-true}
use Rattle.std.proofs.lemmas.List.FromFn.{map-range_with_len_more}
use Rattle.std.proofs.lemmas.List.Sums.{sum_by-cons, sum_by_push, sum-map, count_by-le-length}
use Rattle.awk_bins.specs.Bins.{intervals, count_in, interval_counts, count_under, count_over}
use Rattle.awk_bins.specs.Edges.{are_edges, are_rising}
use Rattle.awk_bins.specs.Tallies.{edges_up_to, tally}
use Rattle.awk_bins.proofs.BinLaws.{tally_in, tally_under, tally_over}

abbrev up_to : ℕ → List ℕ
up_to n = range_with_len 0 n

up_to-more : (n : ℕ) → up_to (n + 1) ≡ up_to n ++ n ∷ []
up_to-more n =
    sym (map-id (up_to (n + 1))) ∙ map-range_with_len_more (λ i. i) 0 n n (omega arith)
    ∙ ap (λ xs. xs ++ n ∷ []) (map-id (up_to n))

sum-more : (f : ℕ → ℕ) (n : ℕ) → sum_by f (up_to (n + 1)) ≡ sum_by f (up_to n) + f n
sum-more f n = ap (sum_by f) (up_to-more n) ∙ sum_by_push f (up_to n) n

sum-suc : (f : ℕ → ℕ) (n : ℕ) → sum_by f (up_to (suc n)) ≡ sum_by f (up_to n) + f n
sum-suc f n = let e : suc n ≡ n + 1 = omega arith in ap (λ k. sum_by f (up_to k)) e ∙ sum-more f n

sum-same : (f g : ℕ → ℕ) (n : ℕ) → ((i : ℕ) → i < n → f i ≡ g i)
    → sum_by f (up_to n) ≡ sum_by g (up_to n)
sum-same f g zero h = refl
sum-same f g (suc n) h =
    sum-suc f n
    ∙ ap₂ (λ a b. a + b) (sum-same f g n (λ i l. h i (omega (arith, l)))) (h n (omega arith))
    ∙ sym (sum-suc g n)

sum-add : (f g : ℕ → ℕ) (xs : List ℕ) → sum_by (λ i. f i + g i) xs ≡ sum_by f xs + sum_by g xs
sum-add f g [] = refl
sum-add f g (x ∷ xs) =
    sum_by-cons (λ i. f i + g i) x xs ∙ ap (λ n. f x + g x + n) (sum-add f g xs)
    ∙ omega (arith, sum_by-cons f x xs, sum_by-cons g x xs)

sum-first : (f : ℕ → ℕ) (n : ℕ)
    → sum_by f (up_to (suc n)) ≡ f 0 + sum_by (λ i. f (suc i)) (up_to n)
sum-first f zero = sum_by-cons f 0 []
sum-first f (suc n) =
    sum-suc f (suc n) ∙ ap (λ k. k + f (suc n)) (sum-first f n)
    ∙ omega (arith, sum-suc (λ i. f (suc i)) n)

sum-none : (n : ℕ) → sum_by (λ i. 0) (up_to n) ≡ 0
sum-none zero = refl
sum-none (suc n) = sum-suc (λ i. 0) n ∙ omega (arith, sum-none n)

sum-one : (c n : ℕ) → sum_by (λ j. cond (c == j) 1 0) (up_to n) ≡ cond (nat_lt c n) 1 0
sum-one c zero = grind arith
sum-one c (suc n) =
    sum-suc (λ j. cond (c == j) 1 0) n ∙ ap (λ k. k + cond (c == n) 1 0) (sum-one c n) ∙ grind arith

tally-first : (es : List ℤ) (z : ℤ) (zs : List ℤ) (j : ℕ)
    → tally es (z ∷ zs) j ≡ cond (edges_up_to es z == j) 1 0 + tally es zs j
tally-first es z zs j = sum_by-cons (λ z. cond (edges_up_to es z == j) 1 0) z zs

all_tallied : (es zs : List ℤ) → sum_by (tally es zs) (up_to (length es + 1)) ≡ length zs
all_tallied es [] = sum-none (length es + 1)
all_tallied es (z ∷ zs) =
    let c = edges_up_to es z in
    let most : c ≤ length es = count_by-le-length (λ e. int_le e z) es in
    let inside : nat_lt c (length es + 1) ≡ true = grind (arith, most) in
    sum-same (tally es (z ∷ zs)) (λ j. cond (c == j) 1 0 + tally es zs j) (length es + 1)
    (λ j l. tally-first es z zs j)
    ∙ sum-add (λ j. cond (c == j) 1 0) (tally es zs) (up_to (length es + 1))
    ∙ ap₂ (λ a b. a + b)
    (sum-one c (length es + 1) ∙ ap (λ b. cond b 1 0) inside) (all_tallied es zs)
    ∙ omega arith

pub all_counted : (es zs : List ℤ) → are_edges es ≡ true
    → count_under es zs + sum (interval_counts es zs) + count_over es zs ≡ length zs
all_counted es zs h =
    let many : 2 ≤ length es =
    leb-true 2 (length es) (and_parts (nat_le 2 (length es)) (are_rising es) h).0 in
    let t = tally es zs in
    let width : length es ≡ suc (intervals es) = omega (arith, many) in
    let last = sum-more t (length es) in
    let wide : sum_by t (up_to (length es)) ≡ sum_by t (up_to (suc (intervals es))) =
    ap (λ n. sum_by t (up_to n)) width in
    let first = sum-first t (intervals es) in
    let middle = sum-same (λ i. t (suc i)) (count_in es zs) (intervals es)
    (λ i l. ap t (one i) ∙ tally_in es h zs i l) in
    let listed : sum (interval_counts es zs) ≡ sum_by (count_in es zs) (up_to (intervals es)) =
    sum-map (count_in es zs) (up_to (intervals es)) in
    omega (
      arith,
      last,
      wide,
      first,
      middle,
      listed,
      tally_under es h zs,
      tally_over es h zs,
      all_tallied es zs,
    )
  where
    one : (i : ℕ) → suc i ≡ i + 1
    one i = omega arith
