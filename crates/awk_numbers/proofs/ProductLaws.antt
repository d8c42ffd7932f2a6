-- Products: a factor 0, and those that are far from 0.
use Rattle.std.proofs.Common.{◌≡◌, ℕ, zero, suc, ◌+◌, ◌-◌, ◌<◌, ◌≤◌, List, [], ◌∷◌, ◌++◌, length}
use Rattle.std.proofs.Common.{get_or, arith, refl, ap, sym, ◌∙◌, subst}
use Rattle.std.specs.Prelude.{ℤ, pos, negsuc, ◌*ℤ◌, unsigned_abs, Bool, true, false, ◌||◌}
use Rattle.std.specs.List.{fold, list_any, slice_range}
use Rattle.std.proofs.lemmas.Int.{ints, unsigned_abs-mul}
use Rattle.std.proofs.Math.Nat.{le-mul_of_pos_right}
use Rattle.std.proofs.lemmas.List.Edits.{between_more, length-between, get_or-between}
use Rattle.std.proofs.lemmas.List.Folds.{list_any-append, list_any_at}
use Rattle.std.proofs.lemmas.List.Sums.{fold-append}
use Rattle.awk_numbers.specs.Folds.{product, is_zero}
use Rattle.awk_numbers.proofs.PartLaws.{slice_range-split}

abbrev times : ℤ → List ℤ → ℤ
times a zs = fold (λ so_far z. so_far *ℤ z) a zs

times_zero : (x : ℤ) → x *ℤ pos 0 ≡ pos 0
times_zero x = grind (arith, ints)

zero_times : (x : ℤ) → pos 0 *ℤ x ≡ pos 0
zero_times x = grind (arith, ints)

from_zero : (zs : List ℤ) → times (pos 0) zs ≡ pos 0
from_zero [] = refl
from_zero (z ∷ zs) = ap (λ a. times a zs) (zero_times z) ∙ from_zero zs

zero_among : (a : ℤ) (zs : List ℤ) → list_any is_zero zs ≡ true → times a zs ≡ pos 0
zero_among a [] h = cc
zero_among a (z ∷ zs) h = go (is_zero z) refl (zero_among (a *ℤ z) zs)
  where
    go : (b : Bool) → is_zero z ≡ b → (list_any is_zero zs ≡ true → times (a *ℤ z) zs ≡ pos 0)
        → times (a *ℤ z) zs ≡ pos 0
    go true e r =
        let n : z ≡ pos 0 = grind (arith, ints, e) in
        ap (λ y. times (a *ℤ y) zs) n ∙ ap (λ y. times y zs) (times_zero a) ∙ from_zero zs
    go false e r = r (sym (ap (λ b. b || list_any is_zero zs) e) ∙ h)

pub product_zero : (zs : List ℤ) → list_any is_zero zs ≡ true → product zs ≡ pos 0
product_zero zs h = zero_among (pos 1) zs h

pub some_factor : (x : ℤ) → is_zero x ≡ false → 0 < unsigned_abs x
some_factor (pos zero) e = cc
some_factor (pos (suc n)) e = omega arith
some_factor (negsuc n) e = omega arith

-- a factor that is not 0 leads no nearer to 0
farther : (a x : ℤ) → is_zero x ≡ false → unsigned_abs a ≤ unsigned_abs (a *ℤ x)
farther a x e =
    subst (λ n. unsigned_abs a ≤ n) (sym (unsigned_abs-mul a x))
    (le-mul_of_pos_right (unsigned_abs a) (some_factor x e))

stays_far : (n : ℕ) (a : ℤ) (zs : List ℤ) → list_any is_zero zs ≡ false → n ≤ unsigned_abs a
    → n ≤ unsigned_abs (times a zs)
stays_far n a [] h l = l
stays_far n a (z ∷ zs) h l = go (is_zero z) refl
    (λ e r. stays_far n (a *ℤ z) zs r (omega (arith, l, farther a z e)))
  where
    go : (b : Bool) → is_zero z ≡ b
        → (is_zero z ≡ false → list_any is_zero zs ≡ false → n ≤ unsigned_abs (times (a *ℤ z) zs))
        → n ≤ unsigned_abs (times (a *ℤ z) zs)
    go true e r = let f : true ≡ false = sym (ap (λ b. b || list_any is_zero zs) e) ∙ h in cc
    go false e r = r e (sym (ap (λ b. b || list_any is_zero zs) e) ∙ h)

behind : (xs ys : List ℤ) → list_any is_zero (xs ++ ys) ≡ false → list_any is_zero ys ≡ false
behind [] ys h = h
behind (x ∷ xs) ys h = behind xs ys (go (is_zero x) h)
  where
    go : (b : Bool) → (b || list_any is_zero (xs ++ ys)) ≡ false
        → list_any is_zero (xs ++ ys) ≡ false
    go true e = cc
    go false e = e

-- one factor more
pub product_more : (zs : List ℤ) (a i : ℕ) → a ≤ i → i < length zs
    → product (slice_range zs a (i + 1)) ≡ product (slice_range zs a i) *ℤ get_or zs i (pos 0)
product_more zs a i p q =
    ap product (between_more zs a i (pos 0) p q)
    ∙ fold-append (λ so_far z. so_far *ℤ z) (pos 1) (slice_range zs a i) (get_or zs i (pos 0) ∷ [])

-- once far, always far
pub product_far : (zs : List ℤ) (a i b : ℕ) (next : ℤ) → a ≤ i → i < b → b ≤ length zs
    → list_any is_zero (slice_range zs a b) ≡ false
    → next ≡ product (slice_range zs a i) *ℤ get_or zs i (pos 0)
    → 18446744073709551616 ≤ unsigned_abs next
    → 18446744073709551616 ≤ unsigned_abs (product (slice_range zs a b))
product_far zs a i b next p q r h e far =
    let split : slice_range zs a b ≡ slice_range zs a (i + 1) ++ slice_range zs (i + 1) b =
    slice_range-split zs a (i + 1) b (omega (arith, p)) (omega (arith, q)) (omega (arith, q, r)) in
    let more : next ≡ product (slice_range zs a (i + 1)) =
    e ∙ sym (product_more zs a i p (omega (arith, q, r))) in
    let whole : times (product (slice_range zs a (i + 1))) (slice_range zs (i + 1) b)
    ≡ product (slice_range zs a b) =
    sym (ap product split
    ∙ fold-append (λ so_far z. so_far *ℤ z) (pos 1) (slice_range zs a (i + 1))
    (slice_range zs (i + 1) b)) in
    subst (λ z. 18446744073709551616 ≤ unsigned_abs z) whole
    (stays_far 18446744073709551616 (product (slice_range zs a (i + 1)))
    (slice_range zs (i + 1) b)
    (behind (slice_range zs a (i + 1)) (slice_range zs (i + 1) b)
    (sym (ap (list_any is_zero) split) ∙ h))
    (subst (λ z. 18446744073709551616 ≤ unsigned_abs z) more far))

-- no 0 so far, and none at the next place
pub none_more : (zs : List ℤ) (a i : ℕ) → a ≤ i → i < length zs
    → list_any is_zero (slice_range zs a i) ≡ false → is_zero (get_or zs i (pos 0)) ≡ false
    → list_any is_zero (slice_range zs a (i + 1)) ≡ false
none_more zs a i p q h e =
    ap (list_any is_zero) (between_more zs a i (pos 0) p q)
    ∙ list_any-append is_zero (slice_range zs a i) (get_or zs i (pos 0) ∷ [])
    ∙ ap (λ b. b || (is_zero (get_or zs i (pos 0)) || false)) h
    ∙ ap (λ b. b || false) e

-- a 0 at some place
pub some_zero : (zs : List ℤ) (a i b : ℕ) → a ≤ i → i < b → b ≤ length zs
    → is_zero (get_or zs i (pos 0)) ≡ true → list_any is_zero (slice_range zs a b) ≡ true
some_zero zs a i b p q r e =
    let here : a + (i - a) ≡ i = omega (arith, p) in
    list_any_at is_zero (slice_range zs a b) (i - a) (pos 0)
    (omega (arith, p, q, length-between zs a b r))
    (ap is_zero (get_or-between zs a b (i - a) (pos 0) (omega (arith, p, q))
    ∙ ap (λ k. get_or zs k (pos 0)) here) ∙ e)
