-- Lists by the places of a range: parts of it, and blocks.
use Rattle.std.proofs.Common.{◌≡◌, ◌∙◌, ◌+◌, ◌-◌, ◌*◌, ◌<◌, ◌≤◌, ◌&&◌, ◌++◌, ◌∷◌, [], ℕ, zero, suc}
use Rattle.std.proofs.Common.{Bool, true, false, List, ap, ap₂, sym, subst, refl, arith}
use Rattle.std.specs.List.{flat_map, list_all, range_with_len}
use Rattle.std.proofs.lemmas.Grind.{flat_map-append}
use Rattle.std.proofs.lemmas.List.{append-nil}
use Rattle.std.proofs.lemmas.Bool.{and_right}
use Rattle.awk_base.proofs.Ranges.{range-append}
use Rattle.awk_types.specs.Value.{Value, value_list}
use Rattle.awk_layout.specs.Item.{run}

-- ---- what holds at each place

pub all-range : (p q : ℕ → Bool) (a n : ℕ) → ((j : ℕ) → j < a + n → p j ≡ q j)
    → list_all p (range_with_len a n) ≡ list_all q (range_with_len a n)
all-range p q a zero e = refl
all-range p q a (suc n) e =
    ap₂ (λ x y. x && y) (e a (omega arith))
    (all-range p q (a + 1) n (λ j l. e j (omega (arith, l))))

fails : (p : ℕ → Bool) (a d n : ℕ) → d < n → p (a + d) ≡ false
    → list_all p (range_with_len a n) ≡ false
fails p a d zero l e = absurd (omega (arith, l))
fails p a zero (suc n) l e =
    let s : a + 0 ≡ a = omega arith in
    ap (λ x. x && list_all p (range_with_len (a + 1) n)) (sym (ap p s) ∙ e)
fails p a (suc d) (suc n) l e =
    let s : (a + 1) + d ≡ a + suc d = omega arith in
    and_right (p a) (list_all p (range_with_len (a + 1) n))
    (fails p (a + 1) d n (omega (arith, l)) (ap p s ∙ e))

-- one that fails
pub fails_at : (p : ℕ → Bool) (n j : ℕ) → j < n → p j ≡ false
    → list_all p (range_with_len 0 n) ≡ false
fails_at p n j l e =
    let s : 0 + j ≡ j = omega arith in fails p 0 j n l (ap p s ∙ e)

all_part : (p : ℕ → Bool) (a n : ℕ)
    → list_all p (range_with_len a (n + 1)) ≡ (list_all p (range_with_len a n) && p (a + n))
all_part p a zero =
    let s : a ≡ a + 0 = omega arith in and_true (p a) ∙ ap p s
  where
    and_true : (b : Bool) → (b && true) ≡ b
    and_true true = refl
    and_true false = refl
all_part p a (suc n) =
    let s : (a + 1) + n ≡ a + suc n = omega arith in
    let z : suc n + 1 ≡ suc (n + 1) = omega arith in
    ap (λ m. list_all p (range_with_len a m)) z
    ∙ ap (λ x. p a && x) (all_part p (a + 1) n ∙ ap
    (λ m. list_all p (range_with_len (a + 1) n) && p m) s)
    ∙ and_assoc (p a) (list_all p (range_with_len (a + 1) n)) (p (a + suc n))
  where
    and_assoc : (b c d : Bool) → (b && (c && d)) ≡ ((b && c) && d)
    and_assoc true c d = refl
    and_assoc false c d = refl

-- one more that holds
pub holds_next : (p : ℕ → Bool) (n : ℕ) → list_all p (range_with_len 0 n) ≡ true → p n ≡ true
    → list_all p (range_with_len 0 (n + 1)) ≡ true
holds_next p n e f =
    let s : 0 + n ≡ n = omega arith in
    all_part p 0 n ∙ ap₂ (λ x y. x && y) e (ap p s ∙ f)

-- ---- lists one after another

abbrev pub nothing : {X : Type 0} → ℕ → List X
nothing j = []

pub flat-none : {X : Type 0} (a n : ℕ) → flat_map (nothing {X = X}) (range_with_len a n) ≡ []
flat-none a zero = refl
flat-none a (suc n) = flat-none (a + 1) n

flat-shift : {X : Type 0} (f : ℕ → List X) (a b n : ℕ)
    → flat_map f (range_with_len (a + b) n) ≡ flat_map (λ j. f (a + j)) (range_with_len b n)
flat-shift f a b zero = refl
flat-shift f a b (suc n) =
    let e : a + b + 1 ≡ a + (b + 1) = omega arith in
    ap (λ xs. f (a + b) ++ xs)
    (ap (λ k. flat_map f (range_with_len k n)) e ∙ flat-shift f a (b + 1) n)

-- n blocks of k, from block a on
pub flat-blocks : {X : Type 0} (f : ℕ → List X) (k a n : ℕ)
    → flat_map f (range_with_len (a * k) (n * k))
    ≡ flat_map (λ i. flat_map (λ j. f (i * k + j)) (range_with_len 0 k)) (range_with_len a n)
flat-blocks f k a zero =
    let z : 0 * k ≡ 0 = omega arith in ap (λ m. flat_map f (range_with_len (a * k) m)) z
flat-blocks f k a (suc n) =
    let w : suc n * k ≡ k + n * k = grind arith in
    let z : a * k ≡ a * k + 0 = omega arith in
    let next : a * k + k ≡ (a + 1) * k = grind arith in
    ap (λ m. flat_map f (range_with_len (a * k) m)) w
    ∙ ap (flat_map f) (range-append (a * k) k (n * k))
    ∙ flat_map-append f (range_with_len (a * k) k) (range_with_len (a * k + k) (n * k))
    ∙ ap₂ (λ xs ys. xs ++ ys)
    (ap (λ b. flat_map f (range_with_len b k)) z ∙ flat-shift f (a * k) 0 k)
    (ap (λ b. flat_map f (range_with_len b (n * k))) next ∙ flat-blocks f k (a + 1) n)

-- ---- runs

run-part : (f : ℕ → Value) (a m n : ℕ)
    → value_list (run f a (m + n)) ≡ value_list (run f a m) ++ value_list (run f (a + m) n)
run-part f a zero n =
    let e : a ≡ a + 0 = omega arith in
    let z : 0 + n ≡ n = omega arith in
    ap (λ m. value_list (run f a m)) z ∙ ap (λ k. value_list (run f k n)) e
run-part f a (suc m) n =
    let e : suc a + m ≡ a + suc m = omega arith in
    let z : suc m + n ≡ suc (m + n) = omega arith in
    ap (λ k. value_list (run f a k)) z
    ∙ ap (λ vs. f a ∷ vs) (run-part f (suc a) m n)
    ∙ ap (λ k. f a ∷ (value_list (run f (suc a) m) ++ value_list (run f k n))) e

pub rises : (o : ℕ → ℕ) (b k : ℕ) → ((j : ℕ) → j < k → o (b + j) ≤ o (b + j + 1)) → o b ≤ o (b + k)
rises o b zero h = let e : b ≡ b + 0 = omega arith in subst (λ c. o b ≤ o c) e (omega arith)
rises o b (suc k) h =
    let before : o b ≤ o (b + k) = rises o b k (λ j l. h j (omega (arith, l))) in
    let last : o (b + k) ≤ o (b + k + 1) = h k (omega arith) in
    let e : b + k + 1 ≡ b + suc k = omega arith in
    subst (λ c. o b ≤ o c) e (omega (arith, before, last))

-- neighbouring runs are one
pub runs-joined : (f : ℕ → Value) (o : ℕ → ℕ) (b k : ℕ)
    → ((j : ℕ) → j < k → o (b + j) ≤ o (b + j + 1))
    → value_list (run f (o b) (o (b + k) - o b))
    ≡ flat_map (λ j. value_list (run f (o (b + j)) (o (b + j + 1) - o (b + j))))
    (range_with_len 0 k)
runs-joined f o b zero h =
    let e : b + 0 ≡ b = omega arith in
    let n : o (b + 0) - o b ≡ 0 = omega (arith, ap o e) in
    ap (λ m. value_list (run f (o b) m)) n
runs-joined f o b (suc k) h =
    let g : ℕ → List Value = λ j. value_list (run f (o (b + j)) (o (b + j + 1) - o (b + j))) in
    let before : o b ≤ o (b + k) = rises o b k (λ j l. h j (omega (arith, l))) in
    let last : o (b + k) ≤ o (b + k + 1) = h k (omega arith) in
    let e : b + suc k ≡ b + k + 1 = omega arith in
    let parts : o (b + suc k) - o b ≡ (o (b + k) - o b) + (o (b + k + 1) - o (b + k)) =
    omega (arith, ap o e, before, last) in
    let there : o b + (o (b + k) - o b) ≡ o (b + k) = omega (arith, before) in
    let s : suc k ≡ k + 1 = omega arith in
    let z : 0 + k ≡ k = omega arith in
    ap (λ m. value_list (run f (o b) m)) parts
    ∙ run-part f (o b) (o (b + k) - o b) (o (b + k + 1) - o (b + k))
    ∙ ap₂ (λ xs ys. xs ++ ys) (runs-joined f o b k (λ j l. h j (omega (arith, l))))
    (ap (λ a. value_list (run f a (o (b + k + 1) - o (b + k)))) there ∙ sym (append-nil (g k)))
    ∙ sym (ap (λ n. flat_map g (range_with_len 0 n)) s
    ∙ ap (flat_map g) (range-append 0 k 1 ∙ ap (λ m. range_with_len 0 k ++ range_with_len m 1) z)
    ∙ flat_map-append g (range_with_len 0 k) (range_with_len k 1))

-- ---- multiples
