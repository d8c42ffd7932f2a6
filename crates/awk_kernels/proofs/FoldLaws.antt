-- Sums, and the first place of the least and of the greatest number.
use Rattle.std.proofs.Common.{◌≡◌, ◌≢◌, ℕ, suc, zero, ◌+◌, ◌<◌, ◌≤◌, List, [], ◌∷◌, length, get_or}
use Rattle.std.proofs.Common.{take, arith, refl, ap, ap₂, sym, subst, ◌∙◌, ◌⊎◌, inl, inr}
use Rattle.std.proofs.Common.{FitsSigned, w64}
use Rattle.std.specs.Prelude.{ℤ, pos, neg_ℤ, map, ◌*◌, ◌+ℤ◌, ◌≤ℤ◌, ◌<ℤ◌, Some, None, Bool}
use Rattle.std.specs.Prelude.{cond, true, false, nat_lt, position}
use Rattle.std.specs.Ordering.{int_eq}
use Rattle.std.specs.Int.{int_min, int_max, w128}
use Rattle.std.specs.List.{fold, reduce, position_or_len, All, Contains}
use Rattle.std.proofs.lemmas.Int.{ints, fold-int_min_bounds, fold-int_min_reached}
use Rattle.std.proofs.lemmas.Int.{fold-int_max_bounds, fold-int_max_reached}
use Rattle.std.specs.Option.{option_and_then}
use Rattle.std.proofs.lemmas.Bool.Decides.{Decides-int_eq}
use Rattle.std.proofs.lemmas.List.{take-map, length-map, get_or-map, get_or_default}
use Rattle.std.proofs.lemmas.List.Sums.{position_or_len_is}
use Rattle.awk_kernels.specs.Kernels.{total, first_least, first_greatest}

-- one number more
pub total_more : (xs : List ℤ) (i : ℕ) → i < length xs
    → total (take (i + 1) xs) ≡ total (take i xs) +ℤ get_or xs i (pos 0)
total_more [] i l = absurd (omega arith)
total_more (x ∷ xs) zero l = omega (arith, ints)
total_more (x ∷ xs) (suc i) l =
    let n : suc i + 1 ≡ suc (i + 1) = omega arith in
    let e = ap (λ n. total (take n (x ∷ xs))) n in
    omega (arith, ints, total_more xs i (omega arith), e)

pub total_more-nat : (xs : List ℕ) (i : ℕ) → i < length xs
    → total (map pos (take (i + 1) xs)) ≡ total (map pos (take i xs)) +ℤ pos (get_or xs i 0)
total_more-nat xs i l =
    ap total (sym (take-map pos (i + 1) xs)) ∙ total_more (map pos xs) i
    (omega (arith, length-map xs pos))
    ∙ ap₂ (λ x y. x +ℤ y) (ap total (take-map pos i xs)) (get_or-map pos xs i 0 (pos 0) l)

-- a number that none of the first is below, and none before its place equals
pub record IsFirstLeast (xs : List ℤ) (i place : ℕ) (x : ℤ) : Type 0 where
  pub inside : place < length xs
  pub found : get_or xs place (pos 0) ≡ x
  pub before : (k : ℕ) → k < place → x <ℤ get_or xs k (pos 0)
  pub bound : (k : ℕ) → k < i → x ≤ℤ get_or xs k (pos 0)

pub record IsFirstGreatest (xs : List ℤ) (i place : ℕ) (x : ℤ) : Type 0 where
  pub inside : place < length xs
  pub found : get_or xs place (pos 0) ≡ x
  pub before : (k : ℕ) → k < place → get_or xs k (pos 0) <ℤ x
  pub bound : (k : ℕ) → k < i → get_or xs k (pos 0) ≤ℤ x

-- the place of a number that stands nowhere before
position_is : (xs : List ℤ) (place : ℕ) (x : ℤ) → place < length xs → get_or xs place (pos 0) ≡ x
    → ((k : ℕ) → k < place → get_or xs k (pos 0) ≢ x) → position (int_eq x) xs ≡ Some place
position_is xs place x l e h =
    let q : position_or_len (int_eq x) xs ≡ place =
    position_or_len_is (int_eq x) xs place (pos 0) (omega arith)
    (λ k m. other (get_or xs k (pos 0)) (h k m)) (λ _. same (get_or xs place (pos 0)) e) in
    let t : nat_lt (position_or_len (int_eq x) xs) (length xs) ≡ true = grind (arith, q, l) in
    ap (λ b. cond b (Some (position_or_len (int_eq x) xs)) None) t ∙ ap (λ n. Some n) q
  where
    self : (z : ℤ) → int_eq z z ≡ true
    self z = grind (arith, ints)

    other : (y : ℤ) → y ≢ x → int_eq x y ≡ false
    other y n = differ (int_eq x y) refl
      where
        differ : (b : Bool) → int_eq x y ≡ b → b ≡ false
        differ true t = absurd (n (sym ((Decides-int_eq x y).0 t)))
        differ false t = refl

    same : (y : ℤ) → y ≡ x → int_eq x y ≡ true
    same y e = subst (λ z. int_eq x z ≡ true) (sym e) (self x)

-- what a fold leaves over is what stands among the numbers and passes none
least_is : (xs : List ℤ) (place : ℕ) (x : ℤ) → place < length xs → get_or xs place (pos 0) ≡ x
    → ((k : ℕ) → k < length xs → x ≤ℤ get_or xs k (pos 0)) → reduce int_min xs ≡ Some x
least_is [] place x l e h = absurd (omega arith)
least_is (y ∷ xs) place x l e h =
    let b = fold-int_min_bounds y xs (fold int_min y xs) refl in
    ap (λ z. Some z) (closed (below place l e b.0 b.1)
    (above (fold-int_min_reached y xs (fold int_min y xs) refl)))
  where
    closed : fold int_min y xs ≤ℤ x → x ≤ℤ fold int_min y xs → fold int_min y xs ≡ x
    closed p q = omega (arith, ints)

    below : (k : ℕ) → k < length (y ∷ xs) → get_or (y ∷ xs) k (pos 0) ≡ x → fold int_min y xs ≤ℤ y
        → All (λ z. fold int_min y xs ≤ℤ z) xs → fold int_min y xs ≤ℤ x
    below zero m f p q = subst (λ z. fold int_min y xs ≤ℤ z) f p
    below (suc k) m f p q = subst (λ z. fold int_min y xs ≤ℤ z) f (q k (pos 0) (omega arith))

    above : (fold int_min y xs ≡ y) ⊎ Contains xs (fold int_min y xs) → x ≤ℤ fold int_min y xs
    above (inl f) = subst (λ z. x ≤ℤ z) (sym f) (h 0 (omega arith))
    above (inr f) =
        subst (λ z. x ≤ℤ z) (get_or_default xs f.0 (pos 0) (fold int_min y xs) f.1 ∙ f.2)
        (h (suc f.0) (omega (arith, f.1)))

pub least_found : (xs : List ℤ) (i place : ℕ) (x : ℤ) → length xs ≤ i → IsFirstLeast xs i place x
    → Some place ≡ first_least xs
least_found xs i place x l h =
    sym (ap (option_and_then (λ y. position (int_eq y) xs))
    (least_is xs place x h.inside h.found (λ k m. h.bound k (omega arith)))
    ∙ position_is xs place x h.inside h.found (λ k m e. absurd
    (omega (arith, ints, h.before k m, e))))

greatest_is : (xs : List ℤ) (place : ℕ) (x : ℤ) → place < length xs → get_or xs place (pos 0) ≡ x
    → ((k : ℕ) → k < length xs → get_or xs k (pos 0) ≤ℤ x) → reduce int_max xs ≡ Some x
greatest_is [] place x l e h = absurd (omega arith)
greatest_is (y ∷ xs) place x l e h =
    let b = fold-int_max_bounds y xs (fold int_max y xs) refl in
    ap (λ z. Some z) (closed (above place l e b.0 b.1)
    (below (fold-int_max_reached y xs (fold int_max y xs) refl)))
  where
    closed : x ≤ℤ fold int_max y xs → fold int_max y xs ≤ℤ x → fold int_max y xs ≡ x
    closed p q = omega (arith, ints)

    above : (k : ℕ) → k < length (y ∷ xs) → get_or (y ∷ xs) k (pos 0) ≡ x → y ≤ℤ fold int_max y xs
        → All (λ z. z ≤ℤ fold int_max y xs) xs → x ≤ℤ fold int_max y xs
    above zero m f p q = subst (λ z. z ≤ℤ fold int_max y xs) f p
    above (suc k) m f p q = subst (λ z. z ≤ℤ fold int_max y xs) f (q k (pos 0) (omega arith))

    below : (fold int_max y xs ≡ y) ⊎ Contains xs (fold int_max y xs) → fold int_max y xs ≤ℤ x
    below (inl f) = subst (λ z. z ≤ℤ x) (sym f) (h 0 (omega arith))
    below (inr f) =
        subst (λ z. z ≤ℤ x) (get_or_default xs f.0 (pos 0) (fold int_max y xs) f.1 ∙ f.2)
        (h (suc f.0) (omega (arith, f.1)))

pub greatest_found : (xs : List ℤ) (i place : ℕ) (x : ℤ) → length xs ≤ i
    → IsFirstGreatest xs i place x → Some place ≡ first_greatest xs
greatest_found xs i place x l h =
    sym (ap (option_and_then (λ y. position (int_eq y) xs))
    (greatest_is xs place x h.inside h.found (λ k m. h.bound k (omega arith)))
    ∙ position_is xs place x h.inside h.found (λ k m e. absurd
    (omega (arith, ints, h.before k m, e))))

-- the sum so far of few numbers, and one more
pub sum_fits : (sum x : ℤ) (i : ℕ) → i < 1073741824 → neg_ℤ (pos (i * 9223372036854775808)) ≤ℤ sum
    → sum ≤ℤ pos (i * 9223372036854775808) → FitsSigned w64 x → FitsSigned w128 (sum +ℤ x)
sum_fits sum x i l p q f = omega (arith, ints)

pub sum_low : (sum x : ℤ) (i : ℕ) → neg_ℤ (pos (i * 9223372036854775808)) ≤ℤ sum → FitsSigned w64 x
    → neg_ℤ (pos ((i + 1) * 9223372036854775808)) ≤ℤ (sum +ℤ x)
sum_low sum x i p f = omega (arith, ints)

pub sum_high : (sum x : ℤ) (i : ℕ) → sum ≤ℤ pos (i * 9223372036854775808) → FitsSigned w64 x
    → (sum +ℤ x) ≤ℤ pos ((i + 1) * 9223372036854775808)
sum_high sum x i p f = omega (arith, ints)
