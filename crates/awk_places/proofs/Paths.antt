-- How many lists of places go up, as a product that is built factor by factor.
use Rattle.std.specs.Prelude.{◌≡◌, refl, ℕ, zero, suc, ◌+◌, ◌-◌, ◌*◌, ◌/◌, ◌<◌, ◌≤◌, Bool, true}
use Rattle.std.specs.Prelude.{false, length}
use Rattle.std.proofs.Common.{arith, ap, ap₂, sym, ◌∙◌, subst}
use Rattle.std.proofs.Math.Nat.{mul-add, mul-div_cancel, add-mul}
use Rattle.awk_places.specs.Paths.{paths}
use Rattle.awk_places.specs.Places.{rising_places}
use Rattle.awk_places.proofs.RisingLaws.{rising_count, length-rising_places}

pub paths-first : (n : ℕ) → paths 0 n ≡ 1
paths-first zero = refl
paths-first (suc n) = refl

pub paths-turned : (a n : ℕ) → paths a n ≡ paths n a
paths-turned zero zero = refl
paths-turned zero (suc n) = refl
paths-turned (suc a) zero = refl
paths-turned (suc a) (suc n) =
    omega (arith, paths-turned (suc a) n, paths-turned a (suc n))

-- ---- those that go up

pub with_replacement : (n d : ℕ) → rising_count true n (suc d) ≡ paths d n
with_replacement zero d = refl
with_replacement (suc n) zero = omega (arith, with_replacement n zero, paths-first n)
with_replacement (suc n) (suc d) =
    omega (arith, with_replacement n (suc d), with_replacement (suc n) d)

pub none_chosen : (n d : ℕ) → d < n → rising_count false n d ≡ 0
none_chosen zero d l = absurd (omega (arith, l))
none_chosen (suc n) zero l = refl
none_chosen (suc n) (suc d) l =
    omega (arith, none_chosen n d (omega (arith, l)), none_chosen (suc n) d (omega (arith, l)))

pub without_replacement : (n a d : ℕ) → a + n ≡ d → rising_count false n d ≡ paths a n
without_replacement zero a d e = refl
without_replacement (suc n) a zero e = absurd (omega (arith, e))
without_replacement (suc n) zero (suc d) e =
    omega (
      arith,
      without_replacement n zero d (omega (arith, e)),
      paths-first n,
      none_chosen (suc n) d (omega (arith, e)),
    )
without_replacement (suc n) (suc a) (suc d) e =
    omega (
      arith,
      without_replacement n (suc a) d (omega (arith, e)),
      without_replacement (suc n) a d (omega (arith, e)),
    )

-- ---- one factor more

upwards_by : (s a n : ℕ) → a + n ≤ s → paths a (suc n) * suc n ≡ paths a n * (a + n + 1)
upwards_by s zero n l =
    let e : 1 * suc n ≡ 1 * (0 + n + 1) = omega arith in
    ap (λ p. p * suc n) (paths-first (suc n)) ∙ e ∙ ap (λ p. p * (0 + n + 1)) (sym (paths-first n))
upwards_by zero (suc a) n l = absurd (omega (arith, l))
upwards_by (suc s) (suc a) n l =
    let here : paths a (suc n) * suc n ≡ paths a n * (a + n + 1) =
    upwards_by s a n (omega (arith, l)) in
    let turned : paths n (suc a) * suc a ≡ paths n a * (n + a + 1) =
    upwards_by s n a (omega (arith, l)) in
    let side : paths (suc a) n * suc a ≡ paths a n * (a + n + 1) =
    ap (λ p. p * suc a) (paths-turned (suc a) n) ∙ turned
    ∙ ap₂ (λ p q. p * q) (paths-turned n a) (let e : n + a + 1 ≡ a + n + 1 = omega arith in e) in
    add-mul (paths (suc a) n) (paths a (suc n)) (suc n)
    ∙ ap (λ q. paths (suc a) n * suc n + q) (here ∙ sym side)
    ∙ sym (mul-add (paths (suc a) n) (suc n) (suc a))
    ∙ ap (λ k. paths (suc a) n * k) (let e : suc n + suc a ≡ suc a + n + 1 = omega arith in e)

-- one step more upwards
pub paths-upwards : (a n : ℕ) → paths a (suc n) * suc n ≡ paths a n * (a + n + 1)
paths-upwards a n = upwards_by (a + n) a n (omega arith)

-- more steps are more paths
pub paths-more : (a n : ℕ) → paths a n ≤ paths a (suc n)
paths-more zero n = omega (arith, paths-first n)
paths-more (suc a) n = omega arith

pub paths-further : (a i k : ℕ) → paths a i ≤ paths a (i + k)
paths-further a i zero = let e : i + 0 ≡ i = omega arith in rw e (omega arith)
paths-further a i (suc k) =
    let e : i + suc k ≡ suc (i + k) = omega arith in
    rw e (omega (arith, paths-further a i k, paths-more a (i + k)))

pub paths-rise : (a i n : ℕ) → i ≤ n → paths a i ≤ paths a n
paths-rise a i n l =
    let e : i + (n - i) ≡ n = omega (arith, l) in
    subst (λ m. paths a i ≤ paths a m) e (paths-further a i (n - i))

-- the next number of paths, by a division without rest
pub paths-next : (a j : ℕ) → paths a j * (a + j + 1) / (j + 1) ≡ paths a (j + 1)
paths-next a j =
    let one : j + 1 ≡ suc j = omega arith in
    rw one (ap (λ p. p / suc j) (sym (paths-upwards a j))
    ∙ mul-div_cancel (paths a (suc j)) (omega arith))

pub ruleset counting = (paths-next, paths-rise)

-- ---- the number of lists of places, by paths

pub count_with : (n m : ℕ) → 0 < m → paths (m - 1) n ≡ length (rising_places true n m)
count_with n m l =
    let e : suc (m - 1) ≡ m = omega (arith, l) in
    sym (length-rising_places true n m ∙ ap (rising_count true n) (sym e)
    ∙ with_replacement n (m - 1))

pub count_without : (n m : ℕ) → n ≤ m → paths (m - n) n ≡ length (rising_places false n m)
count_without n m l =
    sym (length-rising_places false n m ∙ without_replacement n (m - n) m (omega (arith, l)))

pub count_none : (n m : ℕ) → m < n → 0 ≡ length (rising_places false n m)
count_none n m l = sym (length-rising_places false n m ∙ none_chosen n m l)

-- ---- one place

paths-one : (a : ℕ) → paths a 1 ≡ suc a
paths-one zero = refl
paths-one (suc a) = omega (arith, paths-one a)

-- each place alone goes up
pub one_place : (rep : Bool) (m : ℕ) → length (rising_places rep 1 m) ≡ m
one_place true zero = refl
one_place false zero = refl
one_place true (suc m) =
    let e : suc m - 1 ≡ m = omega arith in
    sym (count_with 1 (suc m) (omega arith)) ∙ ap (λ a. paths a 1) e ∙ paths-one m
one_place false (suc m) =
    let e : suc m - 1 ≡ m = omega arith in
    sym (count_without 1 (suc m) (omega arith)) ∙ ap (λ a. paths a 1) e ∙ paths-one m
