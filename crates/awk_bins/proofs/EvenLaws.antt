-- Edges that lie a step apart, and how many of them a number reaches.
use Rattle.std.proofs.Common.{◌≡◌, ℕ, zero, suc, ◌+◌, ◌-◌, ◌*◌, ◌/◌, ◌<◌, ◌≤◌, List, length}
use Rattle.std.proofs.Common.{get_or, refl, ap, ap₂, sym, ◌∙◌, ◌↔◌, arith, inl, inr, ◌⊎◌}
use Rattle.std.specs.Prelude.{ℤ, pos, negsuc, ◌+ℤ◌, ◌-ℤ◌, ◌≤ℤ◌, int_le, nat_le, nat_lt, Bool, true}
use Rattle.std.specs.Prelude.{false, min}
use Rattle.std.proofs.Math.Nat.{le-div_iff_mul-le}
use Rattle.std.proofs.lemmas.Bool.{cases_order}
use Rattle.std.proofs.lemmas.Int.{ints}
use Rattle.awk_lanes.specs.Numbers.{nat_of}
use Rattle.awk_bins.specs.Even.{AreApart, AreEven, AreSteps}
use Rattle.awk_bins.specs.Near.{AreNear}
use Rattle.awk_bins.specs.Tallies.{edges_up_to}

-- ---- one step after another

pub step-more : (i step : ℕ) → (i + 1) * step ≡ i * step + step
step-more i step = grind arith

-- a number that is some way above another
above_by : (w : ℤ) (step : ℕ) → 0 < step → nat_of w ≡ step → w ≡ pos step
above_by (pos n) step l e = grind (arith, ints, e)
above_by (negsuc n) step l e = absurd (omega (arith, e, l))

next-step : (base was now : ℤ) (step n : ℕ) → 0 < step → was ≡ base +ℤ pos (n * step)
    → nat_of (now -ℤ was) ≡ step → now ≡ base +ℤ pos ((n + 1) * step)
next-step base was now step n l e f =
    let by = above_by (now -ℤ was) step l f in
    let m = step-more n step in
    grind (arith, ints, m, by, e)

pub steps_apart : (base : ℤ) (step : ℕ) (ks : List ℤ) → 0 < step
    → get_or ks 0 (pos 0) ≡ base +ℤ pos step → AreSteps step ks → AreApart base step ks
steps_apart base step ks l first h zero m =
    let one : (zero + 1) * step ≡ step = grind arith in
    first ∙ ap (λ n. base +ℤ pos n) (sym one)
steps_apart base step ks l first h (suc k) m =
    let e : suc k ≡ k + 1 = omega arith in
    let was = steps_apart base step ks l first h k (omega (arith, m)) in
    ap (λ j. get_or ks j (pos 0)) e
    ∙ next-step base (get_or ks k (pos 0)) (get_or ks (k + 1) (pos 0)) step (k + 1) l was
    (h k (omega (arith, m)))
    ∙ ap (λ j. base +ℤ pos ((j + 1) * step)) (sym e)

pub no_steps : (step : ℕ) (ks : List ℤ) (k : ℕ) → k + 1 < 1
    → nat_of (get_or ks (k + 1) (pos 0) -ℤ get_or ks k (pos 0)) ≡ step
no_steps step ks k l = absurd (omega (arith, l))

pub steps_more : (step i : ℕ) (ks : List ℤ) → 1 ≤ i
    → ((k : ℕ) → k + 1 < i
    → nat_of (get_or ks (k + 1) (pos 0) -ℤ get_or ks k (pos 0)) ≡ step)
    → nat_of (get_or ks i (pos 0) -ℤ get_or ks (i - 1) (pos 0)) ≡ step
    → (k : ℕ) → k + 1 < i + 1
    → nat_of (get_or ks (k + 1) (pos 0) -ℤ get_or ks k (pos 0)) ≡ step
steps_more step i ks some h e k l = by (cases_order (k + 1) i)
  where
    by : (k + 1 ≡ i) ⊎ ((k + 1 < i) ⊎ (i < k + 1))
        → nat_of (get_or ks (k + 1) (pos 0) -ℤ get_or ks k (pos 0)) ≡ step
    by (inl q) =
        let before : k ≡ i - 1 = omega (arith, q) in
        ap₂ (λ a b. nat_of (get_or ks a (pos 0) -ℤ get_or ks b (pos 0))) q before ∙ e
    by (inr (inl m)) = h k m
    by (inr (inr m)) = absurd (omega (arith, l, m))

-- ---- how many are reached

-- two tests that hold together
same_test : (k q m d : ℕ) → ((k + 1 ≤ q) ↔ (m ≤ d)) → nat_lt k q ≡ nat_le m d
same_test k q m d h = by (nat_lt k q) refl (nat_le m d) refl
  where
    by : (a : Bool) → nat_lt k q ≡ a → (b : Bool) → nat_le m d ≡ b → nat_lt k q ≡ nat_le m d
    by true e true f = e ∙ sym f
    by false e false f = e ∙ sym f
    by true e false f =
        let below : k + 1 ≤ q = grind (arith, e) in
        let within = h.0 below in
        absurd (grind (arith, f, within))
    by false e true f =
        let within : m ≤ d = grind (arith, f) in
        let below = h.1 within in
        absurd (grind (arith, e, below))

within_int : (m : ℕ) (w : ℤ) → 0 < m → nat_le m (nat_of w) ≡ int_le (pos m) w
within_int m (pos n) l = grind (arith, ints)
within_int m (negsuc n) l = grind (arith, ints)

moved : (base z : ℤ) (m : ℕ) → int_le (pos m) (z -ℤ base) ≡ int_le (base +ℤ pos m) z
moved base z m = grind (arith, ints)

some_steps : (k step : ℕ) → 0 < step → 0 < (k + 1) * step
some_steps k step l = omega (arith, step-more k step, l)

-- the edge that lies so many steps and one above a base is reached where so many steps lie between
step_reached : (base z : ℤ) (step k : ℕ) → 0 < step
    → nat_lt k (nat_of (z -ℤ base) / step) ≡ int_le (base +ℤ pos ((k + 1) * step)) z
step_reached base z step k l =
    same_test k (nat_of (z -ℤ base) / step) ((k + 1) * step) (nat_of (z -ℤ base))
    (le-div_iff_mul-le {k = step} {x = k + 1} {y = nat_of (z -ℤ base)} l)
    ∙ within_int ((k + 1) * step) (z -ℤ base) (some_steps k step l)
    ∙ moved base z ((k + 1) * step)

same_count : (q n len : ℕ) → n ≤ len → ((k : ℕ) → k < len → nat_lt k q ≡ nat_lt k n)
    → min q len ≡ n
same_count q zero zero l h = omega arith
same_count q zero (suc len) l h =
    let none = h 0 (omega arith) in
    grind (arith, none)
same_count q (suc n) len l h = by (cases_order (suc n) len)
  where
    by : (suc n ≡ len) ⊎ ((suc n < len) ⊎ (len < suc n)) → min q len ≡ suc n
    by (inl e) =
        let last = h n (omega (arith, l)) in
        let reached : n < q = grind (arith, last) in
        omega (arith, e, reached)
    by (inr (inl m)) =
        let last = h n (omega (arith, l)) in
        let reached : n < q = grind (arith, last) in
        let next = h (suc n) m in
        let over : q ≤ suc n = grind (arith, next) in
        omega (arith, m, reached, over)
    by (inr (inr m)) = absurd (omega (arith, l, m))

-- how many edges a number reaches, by one division
pub divided : (least most base : ℤ) (step : ℕ) (es ks : List ℤ) (z : ℤ)
    → AreNear least most es ks → AreEven base step ks → least ≤ℤ z → z ≤ℤ most
    → min (nat_of (z -ℤ base) / step) (length ks) ≡ edges_up_to es z
divided least most base step es ks z near even a b =
    same_count (nat_of (z -ℤ base) / step) (edges_up_to es z) (length ks) (near.all z a b)
    (λ k l.
    step_reached base z step k even.some ∙ ap (λ e. int_le e z) (sym (even.apart k l))
    ∙ near.reached z k a b l)
