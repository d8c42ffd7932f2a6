-- The greatest of what is needed at the places below a number, place by place.
use lib.IntN.{nat_abs}
use Rattle.std.proofs.Common.{◌≡◌, ◌≢◌, ◌<◌, ℕ, zero, suc, ◌+◌, ◌⊎◌, inl, inr, Bool, true, false}
use Rattle.std.proofs.Common.{cond, List, [], ◌∷◌, length, get_or, get_or-set_same}
use Rattle.std.proofs.Common.{get_or-set_other, map, max, Some, None, Option, refl, sym, ap, ◌∙◌}
use Rattle.std.proofs.Common.{arith, ℤ, pos, negsuc, ◌≤ℤ◌, fold, nat_cmp}
use Rattle.std.proofs.Math.ListN.{set}
use Rattle.std.specs.Ordering.{int_eq, ord_max}
use Rattle.std.proofs.lemmas.Bool.{cases_eq}
use Rattle.std.proofs.lemmas.Bool.Decides.{Decides-int_eq}
use Rattle.std.proofs.lemmas.List.{get_or_read}
use Rattle.awk_lanes.specs.Numbers.{nat_of}
use Rattle.awk_valid.specs.Rules.{tag_rules}
use Rattle.awk_valid.proofs.Places.{tag_rule-none, behind_at-own}
use Rattle.std.specs.List.{range_with_len}
use Rattle.std.specs.Int.{int_max}
use Rattle.std.proofs.lemmas.Int.{ints}
use Rattle.awk_base.proofs.Numbers.{ord_max-nat}
use Rattle.awk_kernels.specs.Kernels as kernels
use Rattle.awk_types.specs.DataType.{greatest}
use Rattle.awk_valid.specs.Needs.{greatest_below, behind, behind_at, index_length, tag_length}
use Rattle.awk_valid.specs.Broken.{first_broken, rule_break}
use Rattle.awk_valid.specs.declared.fault.Rule.{Rule}

-- ---- one more place

greatest_from-more : (f : ℕ → ℕ) (a n : ℕ)
    → greatest (map f (range_with_len a (suc n)))
    ≡ max (greatest (map f (range_with_len a n))) (f (a + n))
greatest_from-more f a zero = let e : a + 0 ≡ a = omega arith in rw e (omega arith)
greatest_from-more f a (suc n) =
    let e : a + suc n ≡ a + 1 + n = omega arith in
    let later = greatest_from-more f (a + 1) n in
    rw e (omega (arith, later))

pub greatest_below-more : (f : ℕ → ℕ) (n : ℕ)
    → greatest_below (n + 1) f ≡ max (greatest_below n f) (f n)
greatest_below-more f n =
    let e : n + 1 ≡ suc n = omega arith in
    let z : 0 + n ≡ n = omega arith in
    rw e (rw z at (greatest_from-more f 0 n))

-- ---- places that agree

greatest_from-same : (f g : ℕ → ℕ) (a n : ℕ) → ((j : ℕ) → j < n → f (a + j) ≡ g (a + j))
    → greatest (map f (range_with_len a n)) ≡ greatest (map g (range_with_len a n))
greatest_from-same f g a zero h = refl
greatest_from-same f g a (suc n) h =
    let first : a + 0 ≡ a = omega arith in
    let here : f a ≡ g a = rw first at (h 0 (omega arith)) in
    let later =
    greatest_from-same f g (a + 1) n
    (λ j l. let e : a + suc j ≡ a + 1 + j = omega arith in rw e at (h (suc j) (omega arith))) in
    omega (arith, here, later)

-- where they give the same at each place below n
pub greatest_below-same : (n : ℕ) (f g : ℕ → ℕ) → ((k : ℕ) → k < n → f k ≡ g k)
    → greatest_below n f ≡ greatest_below n g
greatest_below-same n f g h =
    greatest_from-same f g 0 n (λ j l. let e : 0 + j ≡ j = omega arith in rw e (h j l))

first_broken-same : (m a n : ℕ) (p q : ℕ → Option Rule) → ((j : ℕ) → j < n → p (a + j) ≡ q (a + j))
    → first_broken m p (range_with_len a n) ≡ first_broken m q (range_with_len a n)
first_broken-same m a zero p q h = refl
first_broken-same m a (suc n) p q h =
    let first : a + 0 ≡ a = omega arith in
    let here : p a ≡ q a = rw first at (h 0 (omega arith)) in
    let later =
    first_broken-same m (a + 1) n p q
    (λ j l. let e : a + suc j ≡ a + 1 + j = omega arith in rw e at (h (suc j) (omega arith))) in
    rw (here, later) refl

-- rules that agree at each place below n are first broken alike
pub rule_break-same : (m n : ℕ) (p q : ℕ → Option Rule) → ((k : ℕ) → k < n → p k ≡ q k)
    → rule_break m n p ≡ rule_break m n q
rule_break-same m n p q h =
    first_broken-same m 0 n p q (λ j l. let e : 0 + j ≡ j = omega arith in rw e (h j l))

-- ---- the greatest index

behind-int_max : (a b : ℤ) → behind (int_max a b) ≡ max (behind a) (behind b)
behind-int_max (pos a) (pos b) = grind (arith, ints, int_max)
behind-int_max (pos a) (negsuc b) = grind (arith, ints, int_max)
behind-int_max (negsuc a) (pos b) = grind (arith, ints, int_max)
behind-int_max (negsuc a) (negsuc b) = grind (arith, ints, int_max)

behind-fold : (x : ℤ) (xs : List ℤ)
    → behind (fold int_max x xs) ≡ max (behind x) (greatest (map behind xs))
behind-fold x [] = omega arith
behind-fold x (y ∷ ys) = omega (arith, behind-fold (int_max x y) ys, behind-int_max x y)

numbers-from : (f : ℤ → ℕ) (xs ys : List ℤ) (a : ℕ)
    → ((j : ℕ) → j < length xs → get_or ys (a + j) (pos 0) ≡ get_or xs j (pos 0))
    → map (λ i. f (get_or ys i (pos 0))) (range_with_len a (length xs)) ≡ map f xs
numbers-from f [] ys a h = refl
numbers-from f (x ∷ xs) ys a h =
    let first : a + 0 ≡ a = omega arith in
    let here : get_or ys a (pos 0) ≡ x = rw first at (h 0 (omega arith)) in
    let later =
    numbers-from f xs ys (a + 1)
    (λ j l. let e : a + suc j ≡ a + 1 + j = omega arith in rw e at (h (suc j) (omega arith))) in
    rw (here, later) refl

-- the place behind the greatest index, and 0 of none
abbrev pub behind_greatest : Option ℤ → ℕ
behind_greatest (Some z) = behind z
behind_greatest None = 0

pub index_length-greatest : (xs : List ℤ)
    → behind_greatest (kernels.greatest xs) ≡ index_length (length xs) (λ i. get_or xs i (pos 0))
index_length-greatest [] = refl
index_length-greatest (x ∷ xs) =
    behind-fold x xs
    ∙ sym
    (ap greatest
    (numbers-from behind (x ∷ xs) (x ∷ xs) 0
    (λ j l. let e : 0 + j ≡ j = omega arith in rw e refl)))

-- ---- the length of an alternative

-- at another tag an index needs no item
behind_at-other : (k : ℕ) (t z : ℤ) → pos 0 ≤ℤ t → k ≢ nat_of t → behind_at k t z ≡ 0
behind_at-other k t z p h = by (int_eq t (pos k)) refl
  where
    by : (b : Bool) → int_eq t (pos k) ≡ b → cond b (behind z) 0 ≡ 0
    by true e = absurd (h (sym (ap nat_of ((Decides-int_eq t (pos k)).0 e))))
    by false e = refl

nat_abs-nat_of : (t : ℤ) → pos 0 ≤ℤ t → nat_abs t ≡ nat_of t
nat_abs-nat_of (pos n) h = refl
nat_abs-nat_of (negsuc n) h = absurd (omega (arith, ints))

raised : (lengths : List ℕ) (p v k most needed : ℕ) → (k ≡ p) ⊎ (k ≢ p) → p < length lengths
    → v ≡ max (get_or lengths p 0) most → (k ≡ p → needed ≡ most) → (k ≢ p → needed ≡ 0)
    → get_or (set lengths p v) k 0 ≡ max (get_or lengths k 0) needed
raised lengths p v k most needed (inl e) l m same other =
    rw (e, get_or-set_same lengths p v 0 l, same e) m
raised lengths p v k most needed (inr n) l m same other =
    rw (get_or-set_other lengths p k v 0 n, other n) (omega arith)

-- one more tag raises the length of its alternative, and of no other
pub tag_length-more : (lengths : List ℕ) (tags index : List ℤ) (count n p had v k : ℕ)
    → length lengths ≡ count → tag_rules count tags index n ≡ None
    → get_or lengths k 0 ≡ tag_length n (λ i. get_or tags i (pos 0)) (λ i. get_or index i (pos 0)) k
    → p ≡ nat_abs (get_or tags n (pos 0)) → had ≡ get_or lengths p had
    → v ≡ ord_max nat_cmp had (behind (get_or index n (pos 0)))
    → get_or (set lengths p v) k 0
    ≡ tag_length (n + 1) (λ i. get_or tags i (pos 0)) (λ i. get_or index i (pos 0)) k
tag_length-more lengths tags index count n p had v k each rule before at_tag read raise =
    let t = get_or tags n (pos 0) in
    let z = get_or index n (pos 0) in
    let keeps = tag_rule-none count t z rule in
    let here : p ≡ nat_of t = at_tag ∙ nat_abs-nat_of t keeps.0 in
    let within : p < length lengths = omega (arith, keeps.1, here, each) in
    let was : had ≡ get_or lengths p 0 = get_or_read lengths p had within read 0 in
    let most : v ≡ max (get_or lengths p 0) (behind z) =
    raise ∙ ord_max-nat had (behind z) ∙ ap (λ (x : ℕ). max x (behind z)) was in
    let more =
    greatest_below-more
    (λ (i : ℕ). behind_at k (get_or tags i (pos 0)) (get_or index i (pos 0))) n in
    let now = raised lengths p v k (behind z) (behind_at k t z) (cases_eq k p) within most
    (λ (e : k ≡ p). rw (e ∙ here) (behind_at-own t z keeps.0))
    (λ (h : k ≢ p). behind_at-other k t z keeps.0 (λ (e : k ≡ nat_of t). h (e ∙ sym here))) in
    now ∙ ap (λ (x : ℕ). max x (behind_at k t z)) before ∙ sym more
